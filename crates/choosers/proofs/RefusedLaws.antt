-- Demand 1 of each call that may be refused, on any record, list and table: a refusal is one of its own, and leaves all that was lent as
-- it was.
-- Assumes nothing.
use mathlib.Core.Path.{◌≡◌, refl, sym, subst}
use mathlib.Core.Bool.{true, ◌||◌}
use mathlib.Core.List.{List}
use mathlib.Core.Option as maybe
use Prim.Native.Nat.{ℕ, ◌+◌, ◌^◌, min}
use native.Mathlib.Omega.{arith}
use lib.Dec.{ltb, leb, eqb}
use lib.ListN.{length}
use Rattle.std.specs.Prelude.{Result, Ok, Err}
use Rattle.lists.specs.Lists.{same, has}
use Rattle.answers.proofs.MakingLaws.{sizes_by}
use Rattle.answers.specs.Refusing.{Among, Spares}
use Rattle.lists.proofs.Tests.{by_cond}
use Rattle.answers.specs.declared.Refusal.{Refusal}
use Rattle.answers.specs.Refusals.{answer_of}
use Rattle.answers.specs.Answers.{After, refused}
use Rattle.choosers.specs.declared.choose_k.ConsistentChooseKHasher.{ConsistentChooseKHasher}
use Rattle.choosers.specs.Choosers.{Moved}
use Rattle.choosers.specs.ChooserCalls.{samples_of, fitting, new_call, new_with_k_call, tested, grown_by, grow_call, next_call, counts_from, shrink_call, chooser_state, ChooserState}
use Rattle.choosers.specs.declared.node_map.ConsistentNodeMap.{ConsistentNodeMap}
use Rattle.choosers.specs.Slots.{active, vacant, holder}
use Rattle.choosers.specs.SlotCalls as Slots
use Rattle.choosers.specs.SlotCalls.{queried, len_call, is_empty_call, is_active_call, or_none, get_call, slot_limit, ScratchAfter, slot_state, SlotState}
use Rattle.choosers.specs.RefusedBy.{chooser_refusals, with_k_refusals, grow_refusals, next_refusals, shrink_refusals, add_refusals, remove_refusals, query_refusals, get_refusals}

-- ---- choosers

pub chooser_refuses : (s n : ℕ) → Among chooser_refusals (new_call s n)
unfolding new_call has same
chooser_refuses s n = by_cond (Among chooser_refusals) (ltb (2 ^ 62) n) _ _ (λ above. refl) (λ not. tt)

pub with_k_refuses : (s n k : ℕ) (l : List ℕ) → let a = new_with_k_call s n k l in Spares with_k_refusals a.answer l a.left
unfolding new_with_k_call has same
with_k_refuses s n k l =
    sizes_by (2 ^ 62) 0 k n Spared (λ w. refused w l) _ (λ above. (refl, refl)) (λ less. absurd (omega (arith, less))) (λ more. (refl, refl))
    (λ s. by_cond Spared (ltb (length l) k) _ _ (λ short. (refl, refl)) (λ long. tt))
  where
    Spared : After (List ℕ) ConsistentChooseKHasher → Type 0
    Spared a = Spares with_k_refusals a.answer l a.left

module _ (c : ConsistentChooseKHasher) (l : List ℕ) where
  abbrev Spared : List ℕ → {A : Type 0} → After ChooserState A → Type 0
  Spared ws a = Spares ws a.answer (chooser_state c l) a.left

  -- the record's tests come first, whatever comes then
  tested_refuses : {A : Type 0} (ws : List ℕ) (a : After ChooserState A) → has 12 ws ≡ true → has 1 ws ≡ true → Spared ws a → Spared ws (tested c l a)
  unfolding tested
  tested_refuses ws a h₁₂ h₁ s =
      by_cond (Spared ws) (fitting c l) _ _
      (λ fits. by_cond (Spared ws) (ltb (2 ^ 62) c.n) _ _ (λ above. (h₁, refl)) (λ not. s))
      (λ unfit. (h₁₂, refl))

  grown_refuses : {A : Type 0} (ws : List ℕ) (m : Moved) (x : A) → has 4 ws ≡ true → Spared ws (grown_by c l m x)
  unfolding grown_by
  grown_refuses ws m x h = by_cond (Spared ws) (ltb (length l) (c.k + 1)) _ _ (λ short. (h, refl)) (λ long. tt)

  pub grow_refuses : let a = grow_call c l in Spares grow_refusals a.answer (chooser_state c l) a.left
  unfolding grow_call has same
  grow_refuses =
      tested_refuses grow_refusals _ refl refl
      (by_cond (Spared grow_refusals) (eqb c.k c.n) _ _ (λ all. (refl, refl)) (λ more. grown_refuses grow_refusals _ _ refl))

  pub next_refuses : let a = next_call c l in Spares next_refusals a.answer (chooser_state c l) a.left
  unfolding next_call has same
  next_refuses =
      tested_refuses next_refusals _ refl refl
      (by_cond (Spared next_refusals) (eqb c.k c.n) _ _ (λ all. tt) (λ more. grown_refuses next_refusals _ _ refl))

  pub shrink_refuses : let a = shrink_call c l in Spares shrink_refusals a.answer (chooser_state c l) a.left
  unfolding shrink_call has same
  shrink_refuses =
      tested_refuses shrink_refusals _ refl refl
      (by_cond (Spared shrink_refusals) (eqb c.k 0 || leb c.n c.k || counts_from 0 (samples_of c l)) _ _ (λ cannot. (refl, refl)) (λ can. tt))

-- ---- slot maps

module _ (m : ConsistentNodeMap) (t : List ℕ) where
  abbrev TableSpared : List ℕ → {A : Type 0} → After SlotState A → Type 0
  TableSpared ws a = Spares ws a.answer (slot_state m t) a.left

  pub add_refuses : let a = Slots.add_call m t in Spares add_refusals a.answer (slot_state m t) a.left
  unfolding Slots.add_call has same
  add_refuses =
      by_cond (TableSpared add_refusals) (Slots.fitting m t) _ _
      (λ fits. by_cond (TableSpared add_refusals) (ltb (vacant t m.total) m.total) _ _ (λ free. tt)
      (λ none. by_cond (TableSpared add_refusals) (eqb m.total (length t) || eqb m.total slot_limit) _ _ (λ full. (refl, refl)) (λ room. tt)))
      (λ unfit. (refl, refl))

  pub remove_refuses : (x : ℕ) → let a = Slots.remove_call m t x in Spares remove_refusals a.answer (slot_state m t) a.left
  unfolding Slots.remove_call has same
  remove_refuses x =
      by_cond (TableSpared remove_refusals) (Slots.fitting m t) _ _
      (λ fits. by_cond (TableSpared remove_refusals) (active t m.total x) _ _
      (λ is. by_cond (TableSpared remove_refusals) (eqb (x + 1) m.total) _ _ (λ last. tt) (λ other. tt))
      (λ not. (refl, refl)))
      (λ unfit. (refl, refl))

  queried_refuses : {A : Type 0} (x : A) → Among query_refusals (queried m t x)
  unfolding queried has same
  queried_refuses x = by_cond (Among query_refusals) (Slots.fitting m t) _ _ (λ fits. tt) (λ unfit. refl)

  pub len_refuses : Among query_refusals (len_call m t)
  len_refuses = queried_refuses _

  pub is_empty_refuses : Among query_refusals (is_empty_call m t)
  is_empty_refuses = queried_refuses _

  pub is_active_refuses : (x : ℕ) → Among query_refusals (is_active_call m t x)
  is_active_refuses x = queried_refuses _

  pub get_among : (s places : ℕ) → Among get_refusals (get_call m t s places)
  unfolding get_call has same
  get_among s places =
      by_cond (Among get_refusals) (Slots.fitting m t) _ _
      (λ fits. by_cond (Among get_refusals) (ltb places (min (length t) slot_limit)) _ _ (λ short. refl) (λ long. found (holder s t m.total)))
      (λ unfit. refl)
    where
      found : (o : maybe.Option ℕ) → Among get_refusals (or_none o)
      found maybe.none = refl
      found (maybe.some x) = tt

  -- `get` by its promise: the clause on the scratch says the rest
  pub get_refuses : (s : ℕ) (r : Result ℕ Refusal) (before now : List ℕ) → answer_of r ≡ get_call m t s (length before) → ScratchAfter r before now
      → Spares get_refusals (answer_of r) before now
  get_refuses s (Ok x) before now e k = tt
  get_refuses s (Err why) before now e k = (subst (Among get_refusals) (sym e) (get_among s (length before)), k)
