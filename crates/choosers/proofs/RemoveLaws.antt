-- What remove does to the active slots; and that a fitting map fits after it.
-- Assumes nothing.
use mathlib.Core.Path.{◌≡◌, refl, sym, ap, ◌∙◌, subst}
use mathlib.Core.Logic.{◌≢◌}
use mathlib.Core.Bool.{true, false, cond}
use mathlib.Core.List.{List}
use mathlib.Core.Option.{some}
use Prim.Native.Nat.{ℕ, suc, ◌+◌, ◌<◌}
use native.Mathlib.Omega.{arith}
use borrow.Author.Tests.{lt-ltb, le-ltb, eq-eqb, ne_eqb}
use lib.Dec.{eqb}
use lib.ListN.{length, get_or, set, length-set}
use lib.Seq.{get_or-set_same, get_or-set_other}
use Rattle.answers.specs.Answers.{result, After, refused, after}
use Rattle.lists.specs.Lists.{has, without}
use Rattle.answers.proofs.AnswerLaws.{not_said}
use Rattle.lists.proofs.Tests.{by_test, by_below, by_same}
use Rattle.choosers.specs.declared.node_map.ConsistentNodeMap.{ConsistentNodeMap}
use Rattle.choosers.specs.Slots.{active, actives, slot_among}
use Rattle.choosers.specs.SlotCalls.{map_of, fitting, remove_call, SlotState, slot_state}
use Rattle.choosers.proofs.TableLaws.{active_no, active_over, active_same, active→}
use Rattle.choosers.proofs.SlotCallLaws.{Parts, set_small, fits_parts, fits_of, remove_unfit, remove_none, remove_last, remove_other}
use Rattle.choosers.proofs.SlotLaws.{has_actives, slot_out}
use Rattle.choosers.proofs.ActiveLaws.{Out, out_actives, out_length}

module _ (m : ConsistentNodeMap) (t : List ℕ) (x : ℕ) where
  -- a remove by its cases
  remove_by : (P : After SlotState (Unit {0}) → Type 0)
      → (fitting m t ≡ false → P (refused 12 (slot_state m t)))
      → (fitting m t ≡ true → P (refused 10 (slot_state m t)))
      → (Parts m t → active t m.total x ≡ true → x + 1 ≡ m.total → P (after (result tt) (slot_state (map_of x) t)))
      → (Parts m t → active t m.total x ≡ true → x + 1 ≢ m.total → P (after (result tt) (slot_state m (set t x 0))))
      → P (remove_call m t x)
  remove_by P unfit off end mid =
      by_test (fitting m t)
      (λ ok. by_test (active t m.total x)
      (λ y. by_same (x + 1) m.total
      (λ e. subst P (sym (remove_last m t x ok y e)) (end (fits_parts m t ok) y e))
      (λ d. subst P (sym (remove_other m t x ok y d)) (mid (fits_parts m t ok) y d)))
      (λ n. subst P (sym (remove_none m t x ok n)) (off ok)))
      (λ no. subst P (sym (remove_unfit m t x no)) (unfit no))

  end_out : x + 1 ≡ m.total → Out t m.total x t x
  end_out e = record {
    less = omega arith;
    gone = active_over t x x (omega arith);
    rest = λ y d. active_same t t x m.total y
        (by_below y x
        (λ l. lt-ltb y x l ∙ sym (lt-ltb y m.total (omega arith)))
        (λ l. le-ltb y x l ∙ sym (le-ltb y m.total (omega arith)))) refl;
  }

  mid_out : x < length t → Out t m.total x (set t x 0) m.total
  mid_out h = record {
    less = omega arith;
    gone = active_no (set t x 0) m.total x (λ e. let z : get_or (set t x 0) x 0 ≡ 0 = get_or-set_same t x 0 0 h in omega arith);
    rest = λ y d. active_same (set t x 0) t m.total m.total y refl (get_or-set_other t x y 0 0 d);
  }

  record Removes (a : After SlotState (Unit {0})) : Type 0 where
    was : active t m.total x ≡ true
    out : Out t m.total x a.left.table a.left.map.total
    count : a.left.map.total ≡ cond (eqb (x + 1) m.total) x m.total

  removes : (remove_call m t x).answer ≡ result tt → Removes (remove_call m t x)
  removes =
      remove_by (λ a. a.answer ≡ result tt → Removes a)
      (λ no e. not_said 12 tt e)
      (λ ok e. not_said 10 tt e)
      (λ p y l e. record { was = y; out = end_out l; count = rw (eq-eqb (x + 1) m.total l) })
      (λ p y d e. record {
        was = y;
        out = mid_out (omega (arith, (active→ t m.total x y).0, p.count_le));
        count = rw (ne_eqb (x + 1) m.total d);
      })

  -- A remove of an active slot is accepted.
  pub remove_active : fitting m t ≡ true → active t m.total x ≡ true → (remove_call m t x).answer ≡ result tt
  remove_active ok y =
      by_same (x + 1) m.total
      (λ e. ap (λ (a : After SlotState (Unit {0})). a.answer) (remove_last m t x ok y e))
      (λ d. ap (λ (a : After SlotState (Unit {0})). a.answer) (remove_other m t x ok y d))

  -- Of an accepted remove of x: x was active,
  pub remove_was : (remove_call m t x).answer ≡ result tt → has x (actives t m.total) ≡ true
  remove_was e = has_actives t m.total x ∙ (removes e).was

  -- the active slots after it are those before without x,
  pub remove_actives : (remove_call m t x).answer ≡ result tt → actives (remove_call m t x).left.table (remove_call m t x).left.map.total ≡ without x (actives t m.total)
  remove_actives e = out_actives (removes e).out

  pub remove_length : (remove_call m t x).answer ≡ result tt → suc (length (actives (remove_call m t x).left.table (remove_call m t x).left.map.total)) ≡ length (actives t m.total)
  remove_length e = out_length (removes e).out (removes e).was

  -- a state's slot is the one before where that was not x,
  pub remove_slot : (remove_call m t x).answer ≡ result tt → (s : ℕ) → slot_among s (actives t m.total) ≢ some x
      → slot_among s (actives (remove_call m t x).left.table (remove_call m t x).left.map.total) ≡ slot_among s (actives t m.total)
  remove_slot e s d = ap (slot_among s) (remove_actives e) ∙ slot_out s (actives t m.total) x d

  -- and the count is one less where x was the last slot.
  pub remove_count : (remove_call m t x).answer ≡ result tt → (remove_call m t x).left.map.total ≡ cond (eqb (x + 1) m.total) x m.total
  remove_count e = (removes e).count

  -- A fitting map fits after a remove, refused or not.
  pub remove_fits : fitting m t ≡ true → fitting (remove_call m t x).left.map (remove_call m t x).left.table ≡ true
  remove_fits ok =
      remove_by (λ a. fitting a.left.map a.left.table ≡ true)
      (λ no. ok)
      (λ yes. ok)
      (λ p y e. fits_of (map_of x) t (record {
        count_le = omega (arith, p.count_le);
        count_low = omega (arith, p.count_low);
        bytes = λ z h. p.bytes z (omega arith);
      }))
      (λ p y d. fits_of m (set t x 0) (record {
        count_le = omega (arith, p.count_le, length-set t x 0);
        count_low = p.count_low;
        bytes = λ z h. set_small t x 0 z (omega (arith, (active→ t m.total x y).0, p.count_le)) (omega arith) (λ n. p.bytes z h);
      }))

  -- The table keeps its length.
  pub remove_bytes : length (remove_call m t x).left.table ≡ length t
  remove_bytes =
      remove_by (λ a. length a.left.table ≡ length t)
      (λ no. refl)
      (λ yes. refl)
      (λ p y e. refl)
      (λ p y d. length-set t x 0)
