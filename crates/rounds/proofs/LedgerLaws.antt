-- The ledger's plan: it is by the members of A alone; and which terminal it gives a location.
-- Assumes nothing.
use mathlib.Core.Path.{◌≡◌, refl, sym, ap, fun_ext}
use mathlib.Core.Bool.{Bool, true, false, cond}
use mathlib.Core.List.{List, [], ◌∷◌, map}
use mathlib.Core.Option.{Option, none}
use Prim.Native.Nat.{ℕ}
use native.Mathlib.Omega.{arith}
use borrow.Author.Tests.{eq-eqb, ne_eqb}
use lib.ListN.{length, take}
use Rattle.answers.specs.Answers.{refusal, result}
use Rattle.lists.specs.Lists.{has}
use Rattle.lists.proofs.Tests.{by_same}
use Rattle.lists.proofs.Members.{has_no}
use Rattle.lists.proofs.Having.{has_head, has_tail}
use Rattle.orders.specs.Orders.{P}
use Rattle.choosers.proofs.SlotLaws.{slot_same, slot_none}
use Rattle.rounds.specs.Locations.{slot_of, state_of}
use Rattle.rounds.specs.Ledgers.{Sheet, sheet, plan_from}
use Rattle.rounds.specs.Demand3.{terminal_in, terminal}
use Rattle.lists.proofs.Sets.{Same, same_empty}

-- ---- by the members of A alone

pub slot_of_same : (key x : ℕ) (A B : List ℕ) → Same A B → slot_of key x A ≡ slot_of key x B
unfolding slot_of
slot_of_same key x A B e = slot_same (state_of key x) A B e

pub plan_of_same : (key k n : ℕ) (A B : List ℕ) → Same A B → plan_from key k n A ≡ plan_from key k n B
unfolding plan_from
plan_of_same key k n A B e =
    let sheets : ◌≡◌ {A = ℕ → Sheet} (λ x. sheet x (slot_of key x A)) (λ x. sheet x (slot_of key x B)) = fun_ext (λ x. ap (sheet x) (slot_of_same key x A B e)) in
    (λ i. cond (same_empty A B e i) (refusal 11) (result (map (sheets i) (take k (P key n)))))

-- ---- the terminal of a location

-- a location's slot, where the location is sampled
abbrev pub slot_in : ℕ → List ℕ → List ℕ → ℕ → Option ℕ
slot_in key A sample y = cond (has y sample) (slot_of key y A) none

pub slot_of_none : (key x : ℕ) → slot_of key x [] ≡ none
unfolding slot_of
slot_of_none key x = slot_none (state_of key x)

either_none : (b : Bool) (o : Option ℕ) → o ≡ none → cond b o none ≡ none
either_none true o e = e
either_none false o e = refl

terminal_in_lem : (f : ℕ → Option ℕ) (y : ℕ) (xs : List ℕ) → terminal_in y (map (λ x. sheet x (f x)) xs) ≡ cond (has y xs) (f y) none
unfolding terminal_in
terminal_in_lem f y [] = rw (has_no y [] refl)
terminal_in_lem f y (x ∷ xs) =
    by_same x y
    (λ e. rw (e, eq-eqb y y refl, has_head y xs))
    (λ d. rw (ne_eqb x y d, has_tail y x xs (λ e. d (sym e))) (terminal_in_lem f y xs))

pub terminal_is : (key k n : ℕ) (A : List ℕ) (y : ℕ) → terminal (plan_from key k n A) y ≡ slot_in key A (take k (P key n)) y
unfolding terminal plan_from
terminal_is key k n [] y = sym (either_none (has y (take k (P key n))) (slot_of key y []) (slot_of_none key y))
terminal_is key k n (a ∷ A) y = rw (ne_eqb (length (a ∷ A)) 0 (λ z. omega arith)) (terminal_in_lem (λ x. slot_of key x (a ∷ A)) y (take k (P key n)))
