-- Whether a number stands in a list: with one more in front, and with one taken out.
-- Assumes nothing.
use mathlib.Core.Path.{◌≡◌, refl, sym, ap, ◌∙◌}
use mathlib.Core.Logic.{◌≢◌}
use mathlib.Core.Bool.{true, false}
use mathlib.Core.List.{List, ◌∷◌}
use Prim.Native.Nat.{ℕ}
use lib.Dec.{ltb}
use Rattle.lists.specs.Lists.{occurrences, has, other, without}
use Rattle.lists.proofs.Tests.{same_no, by_same}
use Rattle.lists.proofs.Members.{has_yes, has_no, has→occurrences, occurrences_head, occurrences_tail, occurrences_keep_yes, occurrences_keep_no, keep_within}
use Rattle.lists.proofs.Without.{other_no, other_yes}

pub has_same : (x : ℕ) (xs ys : List ℕ) → occurrences x xs ≡ occurrences x ys → has x xs ≡ has x ys
unfolding has
has_same x xs ys e = ap (ltb 0) e

pub has_head : (x : ℕ) (xs : List ℕ) → has x (x ∷ xs) ≡ true
has_head x xs = has_yes x (x ∷ xs) (occurrences_head x xs)

pub has_tail : (y x : ℕ) (xs : List ℕ) → y ≢ x → has y (x ∷ xs) ≡ has y xs
has_tail y x xs d = has_same y (x ∷ xs) xs (rw (same_no x y (λ e. d (sym e))))

pub has_more : (y x : ℕ) (xs : List ℕ) → has y xs ≡ true → has y (x ∷ xs) ≡ true
has_more y x xs h = has_yes y (x ∷ xs) (occurrences_tail y x xs (has→occurrences y xs h))

-- what stands there already changes nothing
pub has_again : (x : ℕ) (xs : List ℕ) → has x xs ≡ true → (y : ℕ) → has y (x ∷ xs) ≡ has y xs
has_again x xs h y = by_same y x (λ e. rw e (has_head x xs ∙ sym h)) (λ d. has_tail y x xs d)

pub has_out : (x : ℕ) (xs : List ℕ) → has x (without x xs) ≡ false
has_out x xs = has_no x (without x xs) (occurrences_keep_no (other x) x xs (other_no x x refl))

pub has_others : (y x : ℕ) (xs : List ℕ) → y ≢ x → has y (without x xs) ≡ has y xs
has_others y x xs d = has_same y (without x xs) xs (occurrences_keep_yes (other x) y xs (other_yes x y d))

pub has_fewer : (y x : ℕ) (xs : List ℕ) → has y (without x xs) ≡ true → has y xs ≡ true
has_fewer y x xs h = has_yes y xs (keep_within (other x) y xs (has→occurrences y (without x xs) h))
