-- What stands in a list, by how often it does: `0 < occurrences v xs`.
-- Assumes nothing.
use mathlib.Core.Path.{◌≡◌, refl, sym, ap, ◌∙◌}
use mathlib.Core.Bool.{Bool, true, false, true≢false}
use mathlib.Core.List.{List, [], ◌∷◌, ◌++◌}
use Prim.Native.Nat.{ℕ, suc, ◌+◌, ◌<◌}
use native.Mathlib.Omega.{arith}
use borrow.Author.Tests.{ltb-true, ltb-false, lt-ltb, le-ltb}
use Rattle.lists.specs.Lists.{keep, occurrences, has}
use Rattle.lists.proofs.Tests.{same_yes, same_no, by_test, by_same}

pub has_yes : (v : ℕ) (xs : List ℕ) → 0 < occurrences v xs → has v xs ≡ true
unfolding has
has_yes v xs h = lt-ltb 0 (occurrences v xs) h

pub has_no : (v : ℕ) (xs : List ℕ) → occurrences v xs ≡ 0 → has v xs ≡ false
unfolding has
has_no v xs e = le-ltb 0 (occurrences v xs) (omega arith)

pub has→occurrences : (v : ℕ) (xs : List ℕ) → has v xs ≡ true → 0 < occurrences v xs
unfolding has
has→occurrences v xs e = ltb-true 0 (occurrences v xs) e

pub not_has→occurrences : (v : ℕ) (xs : List ℕ) → has v xs ≡ false → occurrences v xs ≡ 0
unfolding has
not_has→occurrences v xs e = omega (arith, ltb-false 0 (occurrences v xs) e)

-- the head stands there, and what stands in the tail does
pub occurrences_head : (x : ℕ) (xs : List ℕ) → 0 < occurrences x (x ∷ xs)
occurrences_head x xs = rw (same_yes x x refl) (omega arith)

pub occurrences_tail : (v x : ℕ) (xs : List ℕ) → 0 < occurrences v xs → 0 < occurrences v (x ∷ xs)
occurrences_tail v x xs h = by_same x v (λ e. rw (same_yes x v e) (omega arith)) (λ d. rw (same_no x v d) h)

-- whatever stands there is the head or stands in the tail
pub occurrences_cons : {C : Type 0} (v x : ℕ) (xs : List ℕ) → 0 < occurrences v (x ∷ xs) → (v ≡ x → C) → (0 < occurrences v xs → C) → C
occurrences_cons v x xs h f g = by_same x v (λ e. f (sym e)) (λ d. g (rw (same_no x v d) at h))

pub occurrences_append : (v : ℕ) (xs ys : List ℕ) → occurrences v (xs ++ ys) ≡ occurrences v xs + occurrences v ys
occurrences_append v [] ys = omega arith
occurrences_append v (x ∷ xs) ys =
    by_same x v
    (λ e. rw (same_yes x v e) (omega (arith, occurrences_append v xs ys)))
    (λ d. rw (same_no x v d) (occurrences_append v xs ys))

-- ---- of the entries that pass a test

pub occurrences_keep_yes : (p : ℕ → Bool) (v : ℕ) (xs : List ℕ) → p v ≡ true → occurrences v (keep p xs) ≡ occurrences v xs
occurrences_keep_yes p v [] y = refl
occurrences_keep_yes p v (x ∷ xs) y =
    by_same x v
    (λ e. let px : p x ≡ true = ap p e ∙ y in rw (px, same_yes x v e) (ap suc (occurrences_keep_yes p v xs y)))
    (λ d. by_test (p x)
    (λ px. rw (px, same_no x v d) (occurrences_keep_yes p v xs y))
    (λ px. rw (px, same_no x v d) (occurrences_keep_yes p v xs y)))

pub occurrences_keep_no : (p : ℕ → Bool) (v : ℕ) (xs : List ℕ) → p v ≡ false → occurrences v (keep p xs) ≡ 0
occurrences_keep_no p v [] n = refl
occurrences_keep_no p v (x ∷ xs) n =
    by_test (p x)
    (λ px. rw (px, same_no x v (λ e. true≢false (sym px ∙ ap p e ∙ n))) (occurrences_keep_no p v xs n))
    (λ px. rw px (occurrences_keep_no p v xs n))

-- what is kept passes the test, and stands in the list
pub keep_passes : (p : ℕ → Bool) (v : ℕ) (xs : List ℕ) → 0 < occurrences v (keep p xs) → p v ≡ true
keep_passes p v xs h = by_test (p v) (λ y. y) (λ n. absurd (omega (arith, occurrences_keep_no p v xs n)))

pub keep_within : (p : ℕ → Bool) (v : ℕ) (xs : List ℕ) → 0 < occurrences v (keep p xs) → 0 < occurrences v xs
keep_within p v xs h = omega (arith, occurrences_keep_yes p v xs (keep_passes p v xs h))

-- tests that agree on the entries keep the same ones
pub keep_agree : (p q : ℕ → Bool) (xs : List ℕ) → ((x : ℕ) → 0 < occurrences x xs → p x ≡ q x) → keep p xs ≡ keep q xs
keep_agree p q [] e = refl
keep_agree p q (x ∷ xs) e =
    let rest : keep p xs ≡ keep q xs = keep_agree p q xs (λ v h. e v (occurrences_tail v x xs h)) in
    by_test (q x)
    (λ y. rw (e x (occurrences_head x xs), y) (ap (λ (r : List ℕ). x ∷ r) rest))
    (λ n. rw (e x (occurrences_head x xs), n) rest)

pub keep_none : (p : ℕ → Bool) (xs : List ℕ) → ((x : ℕ) → 0 < occurrences x xs → p x ≡ false) → keep p xs ≡ []
keep_none p [] e = refl
keep_none p (x ∷ xs) e = rw (e x (occurrences_head x xs)) (keep_none p xs (λ v h. e v (occurrences_tail v x xs h)))

pub keep_append : (p : ℕ → Bool) (xs ys : List ℕ) → keep p (xs ++ ys) ≡ keep p xs ++ keep p ys
keep_append p [] ys = refl
keep_append p (x ∷ xs) ys =
    by_test (p x)
    (λ y. rw y (ap (λ (r : List ℕ). x ∷ r) (keep_append p xs ys)))
    (λ n. rw n (keep_append p xs ys))
