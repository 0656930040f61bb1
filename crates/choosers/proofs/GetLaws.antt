-- What get answers, by its tests; and that it finds a slot where one is active.
-- Assumes nothing.
use Rattle.std.specs.Prelude.{Option, Some, None, Result, ok_or}
use Rattle.answers.specs.declared.Refusal.{Refusal}
use Rattle.answers.specs.declared.Refusal.TheVariants.{NoneActive}
use Rattle.answers.specs.Refusals.{answer_of}
use mathlib.Core.Path.{◌≡◌, refl, sym, ap, subst, ◌∙◌}
use mathlib.Core.Logic.{◌≢◌}
use mathlib.Core.Bool.{true, false, not, true≢false}
use mathlib.Core.List.{List, [], ◌∷◌}
use mathlib.Core.Option.{none}
use Prim.Native.Nat.{ℕ, ◌≤◌, ◌<◌, min}
use native.Mathlib.Omega.{arith}
use borrow.Author.Tests.{lt-ltb, le-ltb, ne_eqb}
use lib.Dec.{eqb}
use lib.ListN.{length}
use lib.Seq.{take_all}
use Rattle.answers.specs.Answers.{refusal}
use Rattle.lists.specs.Lists.{find}
use Rattle.lists.proofs.Having.{has_head}
use Rattle.choosers.specs.declared.node_map.ConsistentNodeMap.{ConsistentNodeMap}
use Rattle.choosers.specs.Choosers.{Q}
use Rattle.choosers.specs.Slots.{active, actives, holder, slot_among}
use Rattle.answers.specs.Refusals.{optional}
use Rattle.choosers.specs.SlotCalls.{slot_limit, fitting, look_up, or_none, get_call, ScratchAfter}
use Rattle.choosers.proofs.OrderLaws.{length_Q}
use Rattle.choosers.proofs.SlotCallLaws.{fits_parts}
use Rattle.choosers.proofs.SlotLaws.{holder_slot, slot_none, slot_some}

-- none is active: no slot; one is: some slot
among_none : (s : ℕ) (A : List ℕ) → false ≡ not (eqb (length A) 0) → slot_among s A ≡ none
among_none s [] e = slot_none s
among_none s (x ∷ A) e = absurd (true≢false (sym (e ∙ ap not (ne_eqb (length (x ∷ A)) 0 (λ z. omega arith)))))

among_some : (s : ℕ) (A : List ℕ) → true ≡ not (eqb (length A) 0) → slot_among s A ≢ none
among_some s [] e = absurd (true≢false e)
among_some s (x ∷ A) e = slot_some s (x ∷ A) x (has_head x A)

-- the code's answer from what a lookup finds
looked_or_none : (o : Option ℕ) → answer_of (ok_or o NoneActive) ≡ or_none (optional o)
looked_or_none None = refl
looked_or_none (Some x) = refl

module _ (m : ConsistentNodeMap) (t : List ℕ) (s places : ℕ) where
  pub get_unfit : fitting m t ≡ false → get_call m t s places ≡ refusal 12
  unfolding get_call
  get_unfit e = rw e

  module _ (ok : fitting m t ≡ true) where
    pub get_short : places < min (length t) slot_limit → get_call m t s places ≡ refusal 4
    unfolding get_call
    get_short h = rw (ok, lt-ltb places (min (length t) slot_limit) h)

    module _ (enough : min (length t) slot_limit ≤ places) where
      is_holder : get_call m t s places ≡ or_none (holder s t m.total)
      unfolding get_call
      is_holder = rw (ok, le-ltb places (min (length t) slot_limit) enough)

      -- with scratch enough, all of Q(count) is looked at
      pub look_all : look_up m.total t s places ≡ holder s t m.total
      unfolding look_up holder
      look_all =
          let p = fits_parts m t ok in
          ap (find (active t m.total)) (take_all places (Q s m.total) (omega (arith, length_Q s m.total, p.count_le, p.count_low)))

      pub get_none : false ≡ not (eqb (length (actives t m.total)) 0) → get_call m t s places ≡ refusal 11
      get_none e = is_holder ∙ ap or_none (holder_slot s t m.total ∙ among_none s (actives t m.total) e)

      -- what is looked up is what get says
      pub get_looked : (o : Option ℕ) → optional o ≡ look_up m.total t s places → answer_of (ok_or o NoneActive) ≡ get_call m t s places
      get_looked o e = looked_or_none o ∙ ap or_none (e ∙ look_all) ∙ sym is_holder

      get_some : true ≡ not (eqb (length (actives t m.total)) 0) → look_up m.total t s places ≢ none
      get_some e n = among_some s (actives t m.total) e (sym (holder_slot s t m.total) ∙ sym look_all ∙ n)

      -- where one is active get is not refused, so the scratch is free
      pub scratch_looked : true ≡ not (eqb (length (actives t m.total)) 0) → (o : Option ℕ) → optional o ≡ look_up m.total t s places
          → (r : Result ℕ Refusal) → r ≡ ok_or o NoneActive → (before now : List ℕ) → length now ≡ length before → ScratchAfter r before now
      scratch_looked e None q r is before now h = absurd (get_some e (sym q))
      scratch_looked e (Some x) q r is before now h = subst (λ (r : Result ℕ Refusal). ScratchAfter r before now) (sym is) h

-- ---- what get says, for whoever calls it with scratch enough

-- It says the slot by definition among the active slots, or 11 where none is active.
pub get_slot : (m : ConsistentNodeMap) (t : List ℕ) (s places : ℕ) → fitting m t ≡ true → min (length t) slot_limit ≤ places → get_call m t s places ≡ or_none (slot_among s (actives t m.total))
get_slot m t s places ok enough = is_holder m t s places ok enough ∙ ap or_none (holder_slot s t m.total)
