-- A list without one number.
-- Assumes nothing.
use mathlib.Core.Path.{◌≡◌, refl, ap}
use mathlib.Core.Logic.{◌≢◌}
use mathlib.Core.Bool.{true, false}
use mathlib.Core.List.{List, [], ◌∷◌}
use Prim.Native.Nat.{ℕ, suc, ◌+◌}
use native.Mathlib.Omega.{arith}
use lib.ListN.{length}
use Rattle.lists.specs.Lists.{occurrences, other, without}
use Rattle.lists.proofs.Tests.{same_yes, same_no, by_same}

pub other_no : (v x : ℕ) → x ≡ v → other v x ≡ false
unfolding other
other_no v x e = rw (same_yes x v e) refl

pub other_yes : (v x : ℕ) → x ≢ v → other v x ≡ true
unfolding other
other_yes v x d = rw (same_no x v d) refl

pub without_length : (v : ℕ) (xs : List ℕ) → length (without v xs) + occurrences v xs ≡ length xs
without_length v [] = omega arith
without_length v (x ∷ xs) =
    by_same x v
    (λ e. rw (other_no v x e, same_yes x v e) (omega (arith, without_length v xs)))
    (λ d. rw (other_yes v x d, same_no x v d) (omega (arith, without_length v xs)))

pub without_none : (v : ℕ) (xs : List ℕ) → occurrences v xs ≡ 0 → without v xs ≡ xs
without_none v [] e = refl
without_none v (x ∷ xs) e =
    by_same x v
    (λ s. absurd (let z : suc (occurrences v xs) ≡ 0 = rw (same_yes x v s) at e in omega arith))
    (λ d. rw (other_yes v x d) (ap (λ (r : List ℕ). x ∷ r) (without_none v xs (rw (same_no x v d) at e))))
