-- What add does to the active slots; and that a fitting map fits after it.
-- Assumes nothing.
use mathlib.Core.Path.{◌≡◌, refl, sym, ap, ◌∙◌, subst}
use mathlib.Core.Logic.{◌⊎◌, ◌≢◌}
use mathlib.Core.Bool.{true, false, not}
use mathlib.Core.List.{List, ◌∷◌}
use mathlib.Core.Option
use mathlib.Core.Option.{Option, some}
use Prim.Native.Nat.{ℕ, suc, ◌+◌, ◌≤◌, ◌<◌, min, max}
use native.Mathlib.Omega.{arith}
use borrow.Author.Tests.{lt-ltb, le-ltb}
use lib.Dec.{eqb}
use lib.ListN.{length, get_or, set, length-set}
use lib.Seq.{get_or-set_same, get_or-set_other}
use Rattle.answers.specs.Answers.{result, After, refused, after}
use Rattle.lists.specs.Lists.{has, without, first_from}
use Rattle.lists.proofs.Tests.{by_test, by_below, by_same}
use Rattle.answers.proofs.AnswerLaws.{not_said, said_same}
use Rattle.lists.proofs.Having.{has_head, has_tail}
use Rattle.lists.proofs.Searching.{first_same}
use Rattle.choosers.specs.declared.node_map.ConsistentNodeMap.{ConsistentNodeMap}
use Rattle.choosers.specs.Slots.{active, deleted, actives, vacant, slot_among}
use Rattle.choosers.specs.SlotCalls.{map_of, slot_limit, fitting, add_call, SlotState, slot_state}
use Rattle.choosers.proofs.TableLaws.{active_yes, active_no, active_over, active_byte, active_same, deleted_byte, by_vacant}
use Rattle.choosers.proofs.SlotCallLaws.{Parts, set_small, fits_parts, fits_of, add_unfit, add_vacant, add_full, add_limit, add_new}
use Rattle.choosers.proofs.SlotLaws.{has_actives, slot_same, slot_put}
use Rattle.choosers.proofs.ActiveLaws.{Out, out_actives, out_length}

pub vacant_le : (t : List ℕ) (c : ℕ) → vacant t c ≤ c
vacant_le t c = by_vacant t c (λ h z. omega arith) (λ e. omega arith)

-- a byte of 0 or 1 is 0 where it is not 1
byte_test : (b : ℕ) → b ≤ 1 → eqb b 0 ≡ not (eqb b 1)
byte_test b h =
    by_same b 0
    (λ e. rw e)
    (λ d. let e : b ≡ 1 = omega arith in rw e)

module _ (m : ConsistentNodeMap) (t : List ℕ) where
  -- The slot that add takes is the lowest below the count that is not active, else the count.
  pub vacant_outside : fitting m t ≡ true → vacant t m.total ≡ Option.get_or (first_from (λ x. not (has x (actives t m.total))) 0 m.total) m.total
  unfolding vacant
  vacant_outside ok =
      ap (λ (o : Option ℕ). Option.get_or o m.total)
      (first_same (deleted t m.total) (λ x. not (has x (actives t m.total))) 0 m.total
      (λ x l h. deleted_byte t m.total x (omega arith)
      ∙ byte_test (get_or t x 0) ((fits_parts m t ok).bytes x (omega arith))
      ∙ ap not (sym (has_actives t m.total x ∙ active_byte t m.total x (omega arith)))))

  -- ---- when it is accepted

  module _ (ok : fitting m t ≡ true) where
    -- It says that slot where there is room for it, and is refused else.
    pub add_room : vacant t m.total < min (length t) slot_limit → (add_call m t).answer ≡ result (vacant t m.total)
    add_room r =
        by_below (vacant t m.total) m.total
        (λ h. ap (λ (a : After SlotState ℕ). a.answer) (add_vacant m t ok (vacant t m.total) refl h))
        (λ l. by_vacant t m.total
        (λ h z. absurd (omega arith))
        (λ v. ap (λ (a : After SlotState ℕ). a.answer) (add_new m t ok (vacant t m.total) refl l (λ e. omega arith) (λ e. omega arith)) ∙ ap result (sym v)))

    pub add_no_room : min (length t) slot_limit ≤ vacant t m.total → add_call m t ≡ refused 9 (slot_state m t)
    add_no_room r =
        let p = fits_parts m t ok in
        by_vacant t m.total
        (λ h z. absurd (omega (arith, p.count_le, p.count_low)))
        (λ v. by_same m.total (length t)
        (λ e. add_full m t ok (vacant t m.total) refl (omega arith) e)
        (λ d. add_limit m t ok (vacant t m.total) refl (omega arith) d (omega (arith, p.count_le, p.count_low))))

  -- ---- what it leaves

  -- an add by its cases
  add_by : (P : After SlotState ℕ → Type 0)
      → (fitting m t ≡ false → P (refused 12 (slot_state m t)))
      → (fitting m t ≡ true → P (refused 9 (slot_state m t)))
      → ((x : ℕ) → Parts m t → x ≡ vacant t m.total → x < m.total → get_or t x 0 ≡ 0 → P (after (result x) (slot_state m (set t x 1))))
      → (Parts m t → m.total ≡ vacant t m.total → m.total < length t → m.total < slot_limit → P (after (result m.total) (slot_state (map_of (m.total + 1)) (set t m.total 1))))
      → P (add_call m t)
  add_by P unfit full low new =
      by_test (fitting m t)
      (λ ok. let p = fits_parts m t ok in
      by_vacant t m.total
      (λ h z. subst P (sym (add_vacant m t ok (vacant t m.total) refl h)) (low (vacant t m.total) p refl h z))
      (λ v. let l : m.total ≤ vacant t m.total = omega arith in
      by_same m.total (length t)
      (λ e. subst P (sym (add_full m t ok (vacant t m.total) refl l e)) (full ok))
      (λ d. by_same m.total slot_limit
      (λ e. subst P (sym (add_limit m t ok (vacant t m.total) refl l d e)) (full ok))
      (λ n. subst P (sym (add_new m t ok (vacant t m.total) refl l d n)) (new p (sym v) (omega (arith, p.count_le)) (omega (arith, p.count_low)))))))
      (λ no. subst P (sym (add_unfit m t no)) (unfit no))

  record Adds (x : ℕ) (a : After SlotState ℕ) : Type 0 where
    lowest : x ≡ vacant t m.total
    was : active t m.total x ≡ false
    is : active a.left.table a.left.map.total x ≡ true
    rest : (y : ℕ) → y ≢ x → active a.left.table a.left.map.total y ≡ active t m.total y
    count : a.left.map.total ≡ max m.total (x + 1)

  low_adds : (x : ℕ) → Parts m t → x ≡ vacant t m.total → x < m.total → get_or t x 0 ≡ 0 → Adds x (after (result x) (slot_state m (set t x 1)))
  low_adds x p v h z = record {
    lowest = v;
    was = active_no t m.total x (omega arith);
    is = active_yes (set t x 1) m.total x h (get_or-set_same t x 1 0 (omega (arith, p.count_le)));
    rest = λ y d. active_same (set t x 1) t m.total m.total y refl (get_or-set_other t x y 1 0 d);
    count = omega arith;
  }

  new_adds : m.total ≡ vacant t m.total → m.total < length t → Adds m.total (after (result m.total) (slot_state (map_of (m.total + 1)) (set t m.total 1)))
  new_adds v h = record {
    lowest = v;
    was = active_over t m.total m.total (omega arith);
    is = active_yes (set t m.total 1) (m.total + 1) m.total (omega arith) (get_or-set_same t m.total 1 0 h);
    rest = λ y d. active_same (set t m.total 1) t (m.total + 1) m.total y
        (by_below y m.total
        (λ l. lt-ltb y (m.total + 1) (omega arith) ∙ sym (lt-ltb y m.total l))
        (λ l. le-ltb y (m.total + 1) (omega arith) ∙ sym (le-ltb y m.total l)))
        (get_or-set_other t m.total y 1 0 d);
    count = omega arith;
  }

  adds : (x : ℕ) → (add_call m t).answer ≡ result x → Adds x (add_call m t)
  adds x =
      add_by (λ a. a.answer ≡ result x → Adds x a)
      (λ no e. not_said 12 x e)
      (λ ok e. not_said 9 x e)
      (λ y p v h z e. subst (λ (n : ℕ). Adds n (after (result y) (slot_state m (set t y 1)))) (said_same y x e) (low_adds y p v h z))
      (λ p v h l e. subst (λ (n : ℕ). Adds n (after (result m.total) (slot_state (map_of (m.total + 1)) (set t m.total 1)))) (said_same m.total x e) (new_adds v h))

  -- Of an add that says x: x is the slot that `vacant` names, and was not active,
  pub add_vacant_said : (x : ℕ) → (add_call m t).answer ≡ result x → x ≡ vacant t m.total
  add_vacant_said x e = (adds x e).lowest

  pub add_fresh : (x : ℕ) → (add_call m t).answer ≡ result x → has x (actives t m.total) ≡ false
  add_fresh x e = has_actives t m.total x ∙ (adds x e).was

  -- the active slots after it are those before and x,
  pub add_actives : (x : ℕ) → (add_call m t).answer ≡ result x → (y : ℕ) → has y (actives (add_call m t).left.table (add_call m t).left.map.total) ≡ has y (x ∷ actives t m.total)
  add_actives x e y =
      has_actives (add_call m t).left.table (add_call m t).left.map.total y
      ∙ by_same y x
      (λ s. ap (active (add_call m t).left.table (add_call m t).left.map.total) s ∙ (adds x e).is ∙ sym (ap (λ (v : ℕ). has v (x ∷ actives t m.total)) s ∙ has_head x (actives t m.total)))
      (λ d. (adds x e).rest y d ∙ sym (has_tail y x (actives t m.total) d ∙ has_actives t m.total y))

  -- those before are those after it without x,
  add_out : (x : ℕ) → (add_call m t).answer ≡ result x → Out (add_call m t).left.table (add_call m t).left.map.total x t m.total
  add_out x e = record { less = omega (arith, (adds x e).count); gone = (adds x e).was; rest = λ y d. sym ((adds x e).rest y d) }

  pub add_before : (x : ℕ) → (add_call m t).answer ≡ result x → actives t m.total ≡ without x (actives (add_call m t).left.table (add_call m t).left.map.total)
  add_before x e = out_actives (add_out x e)

  pub add_length : (x : ℕ) → (add_call m t).answer ≡ result x → length (actives (add_call m t).left.table (add_call m t).left.map.total) ≡ suc (length (actives t m.total))
  add_length x e = sym (out_length (add_out x e) (adds x e).is)

  -- a state's slot is the one before or x,
  pub add_slot : (x : ℕ) → (add_call m t).answer ≡ result x → (s : ℕ)
      → (slot_among s (actives (add_call m t).left.table (add_call m t).left.map.total) ≡ slot_among s (actives t m.total)) ⊎ (slot_among s (actives (add_call m t).left.table (add_call m t).left.map.total) ≡ some x)
  add_slot x e s =
      rw (slot_same s (actives (add_call m t).left.table (add_call m t).left.map.total) (x ∷ actives t m.total) (add_actives x e))
      (slot_put s (actives t m.total) x)

  -- and the count is the old one, or one above x where that is more.
  pub add_count : (x : ℕ) → (add_call m t).answer ≡ result x → (add_call m t).left.map.total ≡ max m.total (x + 1)
  add_count x e = (adds x e).count

  -- A fitting map fits after an add, refused or not.
  pub add_fits : fitting m t ≡ true → fitting (add_call m t).left.map (add_call m t).left.table ≡ true
  add_fits ok =
      add_by (λ a. fitting a.left.map a.left.table ≡ true)
      (λ no. ok)
      (λ yes. ok)
      (λ x p v h z. fits_of m (set t x 1) (record {
        count_le = omega (arith, p.count_le, length-set t x 1);
        count_low = p.count_low;
        bytes = λ y l. set_small t x 1 y (omega (arith, p.count_le)) (omega arith) (λ d. p.bytes y l);
      }))
      (λ p v h l. fits_of (map_of (m.total + 1)) (set t m.total 1) (record {
        count_le = omega (arith, length-set t m.total 1);
        count_low = omega arith;
        bytes = λ y b. set_small t m.total 1 y h (omega arith) (λ d. p.bytes y (omega arith));
      }))

  -- The table keeps its length.
  pub add_bytes : length (add_call m t).left.table ≡ length t
  add_bytes =
      add_by (λ a. length a.left.table ≡ length t)
      (λ no. refl)
      (λ yes. refl)
      (λ x p v h z. length-set t x 1)
      (λ p v h l. length-set t m.total 1)
