-- What a round's calls say and leave, by the tests as the code makes them: one part's test first, the other in that part's own call.
-- Assumes nothing.
use mathlib.Core.Path.{◌≡◌, refl, sym, ap, ◌∙◌}
use mathlib.Core.Bool.{Bool, true, false, ◌&&◌}
use mathlib.Core.List.{List}
use Prim.Native.Nat.{ℕ}
use lib.Dec.{eqb}
use lib.ListN.{length}
use Rattle.std.specs.Prelude.{Option, Result, Ok, Err}
use Rattle.answers.specs.Answers.{refusal, result, map_answer, refused, after, After}
use Rattle.answers.specs.declared.Refusal.{Refusal}
use Rattle.answers.specs.Refusals.{number, answer_of}
use Rattle.lists.proofs.Tests.{by_test}
use Rattle.lists.proofs.Keeping.{both}
use Rattle.orders.specs.declared.consistent_reservoir.ConsistentReservoir.{ConsistentReservoir}
use Rattle.orders.specs.declared.consistent_reservoir.Exchange.{Exchange}
use Rattle.orders.specs.ReservoirCalls as Reservoir
use Rattle.orders.specs.ReservoirCalls.{reservoir_state}
use Rattle.orders.proofs.AdmissionLaws.{admit_unfit}
use Rattle.choosers.specs.declared.node_map.ConsistentNodeMap.{ConsistentNodeMap}
use Rattle.choosers.specs.Slots.{actives}
use Rattle.choosers.specs.SlotCalls as Slots
use Rattle.choosers.specs.SlotCalls.{slot_state}
use Rattle.choosers.proofs.SlotCallLaws.{add_unfit, remove_unfit, query_unfit, query_fit}
use Rattle.rounds.specs.declared.round.Round.{Round}
use Rattle.rounds.specs.Rounds.{reservoir_of, map_of, state, fitting, open_call, by_reservoir, by_slots, admit_call, join_call, withdraw_call}
use Rattle.rounds.specs.InnerRounds.{begun, with_reservoir, with_map, idle_of}

-- ---- open

-- what the reservoir's open says and leaves, as the round's
module _ (key k n : ℕ) (l l' : List ℕ) (o : Result ConsistentReservoir Refusal) (is : after (answer_of o) l' ≡ Reservoir.open_call k n key l) where
  open_by : after (map_answer begun (answer_of o)) l' ≡ open_call key k n l
  unfolding open_call
  open_by = ap (λ (x : After (List ℕ) ConsistentReservoir). after (map_answer begun x.answer) x.left) is

  pub open_made : (a : ConsistentReservoir) (r : Round) → o ≡ Ok a → r ≡ begun a → after (result r) l' ≡ open_call key k n l
  open_made a r e f = ap (λ (x : Round). after (result x) l') f ∙ ap (λ (x : Result ConsistentReservoir Refusal). after (map_answer begun (answer_of x)) l') (sym e) ∙ open_by

  pub open_refused : (w : Refusal) → o ≡ Err w → after (refusal (number w)) l' ≡ open_call key k n l
  open_refused w e = ap (λ (x : Result ConsistentReservoir Refusal). after (map_answer begun (answer_of x)) l') (sym e) ∙ open_by

-- ---- the test of refusal 12

-- the code's test of the list, and of the table
pub list_tested : (r : Round) (l : List ℕ) (a : ConsistentReservoir) (b w : Bool) → a ≡ reservoir_of r → b ≡ Reservoir.fitting a l → b ≡ w → Reservoir.fitting (reservoir_of r) l ≡ w
list_tested r l a b w e f h = ap (λ (x : ConsistentReservoir). Reservoir.fitting x l) (sym e) ∙ sym f ∙ h

pub table_tested : (r : Round) (t : List ℕ) (m : ConsistentNodeMap) (b w : Bool) → m ≡ map_of r → b ≡ Slots.fitting m t → b ≡ w → Slots.fitting (map_of r) t ≡ w
table_tested r t m b w e f h = ap (λ (x : ConsistentNodeMap). Slots.fitting x t) (sym e) ∙ sym f ∙ h

and_false : (a : Bool) → (a && false) ≡ false
and_false true = refl
and_false false = refl

and_true : (a : Bool) → (a && true) ≡ a
and_true true = refl
and_true false = refl

module _ (r : Round) (l t : List ℕ) where
  pub fits_both : fitting (state r l t) ≡ true → (Reservoir.fitting (reservoir_of r) l ≡ true) × (Slots.fitting (map_of r) t ≡ true)
  unfolding fitting
  fits_both e = both (Reservoir.fitting (reservoir_of r) l) (Slots.fitting (map_of r) t) e

  pub list_unfit : Reservoir.fitting (reservoir_of r) l ≡ false → fitting (state r l t) ≡ false
  unfolding fitting
  list_unfit e = rw e

  pub list_fit : Reservoir.fitting (reservoir_of r) l ≡ true → fitting (state r l t) ≡ Slots.fitting (map_of r) t
  unfolding fitting
  list_fit e = rw e

  table_unfit : Slots.fitting (map_of r) t ≡ false → fitting (state r l t) ≡ false
  unfolding fitting
  table_unfit e = rw e (and_false (Reservoir.fitting (reservoir_of r) l))

  table_fit : Slots.fitting (map_of r) t ≡ true → fitting (state r l t) ≡ Reservoir.fitting (reservoir_of r) l
  unfolding fitting
  table_fit e = rw e (and_true (Reservoir.fitting (reservoir_of r) l))

  -- ---- admit

  pub admit_refused : Slots.fitting (map_of r) t ≡ false → refused 12 (state r l t) ≡ admit_call (state r l t)
  unfolding admit_call
  admit_refused e = rw (table_unfit e)

  -- the table fits: the reservoir's call tests the list
  admit_by : Slots.fitting (map_of r) t ≡ true → by_reservoir (state r l t) (Reservoir.admit_call (reservoir_of r) l) ≡ admit_call (state r l t)
  unfolding admit_call
  admit_by ok =
      by_test (Reservoir.fitting (reservoir_of r) l)
      (λ y. rw (table_fit ok, y))
      (λ m. rw (table_fit ok, m, admit_unfit (reservoir_of r) l m))

  pub admit_code : Slots.fitting (map_of r) t ≡ true → (a b : ConsistentReservoir) (e : Result (Option Exchange) Refusal) (l' : List ℕ) (s : Round)
      → a ≡ reservoir_of r → after (Reservoir.answer_of_exchange e) (reservoir_state b l') ≡ Reservoir.admit_call a l → s ≡ with_reservoir r b
      → after (Reservoir.answer_of_exchange e) (state s l' t) ≡ admit_call (state r l t)
  admit_code ok a b e l' s f g h =
      ap (λ (x : Round). after (Reservoir.answer_of_exchange e) (state x l' t)) h
      ∙ ap (by_reservoir (state r l t)) (g ∙ ap (λ (x : ConsistentReservoir). Reservoir.admit_call x l) f)
      ∙ admit_by ok

  -- ---- join

  pub join_refused : Reservoir.fitting (reservoir_of r) l ≡ false → refused 12 (state r l t) ≡ join_call (state r l t)
  unfolding join_call
  join_refused e = rw (list_unfit e)

  -- the list fits: the slot map's call tests the table
  join_by : Reservoir.fitting (reservoir_of r) l ≡ true → by_slots (state r l t) (Slots.add_call (map_of r) t) ≡ join_call (state r l t)
  unfolding join_call
  join_by ok =
      by_test (Slots.fitting (map_of r) t)
      (λ y. rw (list_fit ok, y))
      (λ m. rw (list_fit ok, m, add_unfit (map_of r) t m))

  pub join_code : Reservoir.fitting (reservoir_of r) l ≡ true → (m b : ConsistentNodeMap) (y : Result ℕ Refusal) (t' : List ℕ) (s : Round)
      → m ≡ map_of r → after (answer_of y) (slot_state b t') ≡ Slots.add_call m t → s ≡ with_map r b
      → after (answer_of y) (state s l t') ≡ join_call (state r l t)
  join_code ok m b y t' s f g h =
      ap (λ (x : Round). after (answer_of y) (state x l t')) h
      ∙ ap (by_slots (state r l t)) (g ∙ ap (λ (x : ConsistentNodeMap). Slots.add_call x t) f)
      ∙ join_by ok

  -- ---- withdraw

  module _ (x : ℕ) where
    pub withdraw_refused : Reservoir.fitting (reservoir_of r) l ≡ false → refused 12 (state r l t) ≡ withdraw_call (state r l t) x
    unfolding withdraw_call
    withdraw_refused e = rw (list_unfit e)

    withdraw_by : Reservoir.fitting (reservoir_of r) l ≡ true → by_slots (state r l t) (Slots.remove_call (map_of r) t x) ≡ withdraw_call (state r l t) x
    unfolding withdraw_call
    withdraw_by ok =
        by_test (Slots.fitting (map_of r) t)
        (λ y. rw (list_fit ok, y))
        (λ m. rw (list_fit ok, m, remove_unfit (map_of r) t x m))

    pub withdraw_code : Reservoir.fitting (reservoir_of r) l ≡ true → (m b : ConsistentNodeMap) (o : Result (Unit {0}) Refusal) (t' : List ℕ) (s : Round)
        → m ≡ map_of r → after (answer_of o) (slot_state b t') ≡ Slots.remove_call m t x → s ≡ with_map r b
        → after (answer_of o) (state s l t') ≡ withdraw_call (state r l t) x
    withdraw_code ok m b o t' s f g h =
        ap (λ (y : Round). after (answer_of o) (state y l t')) h
        ∙ ap (by_slots (state r l t)) (g ∙ ap (λ (y : ConsistentNodeMap). Slots.remove_call y t x) f)
        ∙ withdraw_by ok

  -- ---- whether no slot is active

  pub idle_refused : Reservoir.fitting (reservoir_of r) l ≡ false → refusal 12 ≡ idle_of (state r l t)
  unfolding idle_of
  idle_refused e = rw (list_unfit e)

  idle_by : Reservoir.fitting (reservoir_of r) l ≡ true → Slots.is_empty_call (map_of r) t ≡ idle_of (state r l t)
  unfolding idle_of
  idle_by ok =
      let none = eqb (length (actives t r.total)) 0 in
      by_test (Slots.fitting (map_of r) t)
      (λ y. query_fit (map_of r) t none y ∙ rw (list_fit ok, y))
      (λ m. query_unfit (map_of r) t none m ∙ rw (list_fit ok, m))

  pub idle_code : Reservoir.fitting (reservoir_of r) l ≡ true → (m : ConsistentNodeMap) (b : Result Bool Refusal)
      → m ≡ map_of r → answer_of b ≡ Slots.is_empty_call m t → answer_of b ≡ idle_of (state r l t)
  idle_code ok m b e f = f ∙ ap (λ (x : ConsistentNodeMap). Slots.is_empty_call x t) e ∙ idle_by ok
