-- Samples that are 0..k−1: by the last of them, where they ascend.
-- Assumes nothing.
use mathlib.Core.Path.{◌≡◌, refl, sym, ◌∙◌}
use mathlib.Core.Bool.{true, false}
use mathlib.Core.List.{List, [], ◌∷◌}
use Prim.Native.Nat.{ℕ, zero, suc, ◌+◌, ◌-◌, ◌≤◌, ◌<◌}
use native.Mathlib.Omega.{arith}
use native.Mathlib.Nat.{add-zero}
use borrow.Author.Tests.{eq-eqb, eqb-true}
use lib.Dec.{eqb}
use lib.ListN.{length, get_or}
use Rattle.lists.specs.Lists.{last, Ascending}
use Rattle.lists.proofs.Tests.{by_test}
use Rattle.lists.proofs.Keeping.{both}
use Rattle.lists.proofs.Ascending.{rises_ge, rises_gap}
use Rattle.choosers.specs.ChooserCalls.{counts_from}

counts_all : (a : ℕ) (xs : List ℕ) → ((i : ℕ) → i < length xs → get_or xs i 0 ≡ a + i) → counts_from a xs ≡ true
unfolding counts_from
counts_all a [] h = refl
counts_all a (x ∷ xs) h =
    rw (eq-eqb x a (h 0 (omega arith) ∙ add-zero a)) (counts_all (suc a) xs (λ i p. h (suc i) (omega arith) ∙ omega arith))

counts_at : (a : ℕ) (xs : List ℕ) (i : ℕ) → counts_from a xs ≡ true → i < length xs → get_or xs i 0 ≡ a + i
unfolding counts_from
counts_at a [] i e h = absurd (omega arith)
counts_at a (x ∷ xs) zero e h = let p = both (eqb x a) (counts_from (suc a) xs) e in eqb-true x a p.0 ∙ sym (add-zero a)
counts_at a (x ∷ xs) (suc i) e h = let p = both (eqb x a) (counts_from (suc a) xs) e in counts_at (suc a) xs i p.1 (omega arith) ∙ omega arith

-- ascending numbers of which the last is below their number are 0..k−1
pub counts_yes : (xs : List ℕ) (n : ℕ) → Ascending xs n → last xs < length xs → counts_from 0 xs ≡ true
unfolding last
counts_yes xs n a h =
    counts_all 0 xs (λ i p. omega (arith, rises_ge xs n a i p, rises_gap xs n a i (length xs - 1) (omega arith) (omega arith)))

-- and 0..k−1 have such a last
pub counts_no : (xs : List ℕ) → 0 < length xs → length xs ≤ last xs → counts_from 0 xs ≡ false
unfolding last
counts_no xs h e = by_test (counts_from 0 xs) (λ y. absurd (omega (arith, counts_at 0 xs (length xs - 1) y (omega arith)))) (λ n. n)
