-- The first entry of a list that passes a test.
-- Assumes nothing.
use mathlib.Core.Path.{◌≡◌, refl, sym, ap, ◌∙◌}
use mathlib.Core.Logic.{◌⊎◌, inl, inr, ◌≢◌}
use mathlib.Core.Bool.{Bool, true, false, true≢false}
use mathlib.Core.List.{List, [], ◌∷◌}
use mathlib.Core.Option.{Option, none, some}
use Prim.Native.Nat.{ℕ, suc, ◌+◌, ◌≤◌, ◌<◌}
use native.Mathlib.Numerals.{add-one}
use native.Mathlib.Omega.{arith}
use lib.ListN.{length, drop, get_or, drop_of_length-le}
use lib.Seq.{drop-cons}
use Rattle.lists.specs.Lists.{keep, occurrences, find}
use Rattle.lists.proofs.Tests.{by_test, by_same}
use Rattle.lists.proofs.Keeping.{Stronger}
use Rattle.lists.proofs.Members.{occurrences_head, occurrences_tail, occurrences_cons}

-- at the head
pub find_yes : (p : ℕ → Bool) (x : ℕ) (xs : List ℕ) → p x ≡ true → find p (x ∷ xs) ≡ some x
find_yes p x xs e = rw e

pub find_no : (p : ℕ → Bool) (x : ℕ) (xs : List ℕ) → p x ≡ false → find p (x ∷ xs) ≡ find p xs
find_no p x xs e = rw e

-- by cases: an answer is x or not
pub by_answer : {C : Type 0} (o : Option ℕ) (x : ℕ) → (o ≡ some x → C) → (o ≢ some x → C) → C
by_answer none x f g = g (λ e. let z : true ≡ false = cc in true≢false z)
by_answer (some y) x f g = by_same y x (λ e. f (ap some e)) (λ d. g (λ e. d cc))

-- what is found passes, and stands in the list
pub find_passes : (p : ℕ → Bool) (xs : List ℕ) (x : ℕ) → find p xs ≡ some x → p x ≡ true
find_passes p [] x e = absurd (let z : true ≡ false = cc in true≢false z)
find_passes p (y ∷ xs) x e =
    by_test (p y)
    (λ h. let z : y ≡ x = cc (find_yes p y xs h) in ap p (sym z) ∙ h)
    (λ n. find_passes p xs x (sym (find_no p y xs n) ∙ e))

pub find_within : (p : ℕ → Bool) (xs : List ℕ) (x : ℕ) → find p xs ≡ some x → 0 < occurrences x xs
find_within p [] x e = absurd (let z : true ≡ false = cc in true≢false z)
find_within p (y ∷ xs) x e =
    by_test (p y)
    (λ h. let z : y ≡ x = cc (find_yes p y xs h) in rw z (occurrences_head x xs))
    (λ n. occurrences_tail x y xs (find_within p xs x (sym (find_no p y xs n) ∙ e)))

-- where an entry passes, one is found; where none does, none
pub find_some : (p : ℕ → Bool) (xs : List ℕ) (x : ℕ) → 0 < occurrences x xs → p x ≡ true → find p xs ≢ none
find_some p [] x h y e = omega arith
find_some p (z ∷ xs) x h y e =
    by_test (p z)
    (λ q. let w : true ≡ false = cc (find_yes p z xs q) in true≢false w)
    (λ n. occurrences_cons x z xs h
    (λ s. true≢false (sym y ∙ ap p s ∙ n))
    (λ l. find_some p xs x l y (sym (find_no p z xs n) ∙ e)))

pub find_none : (p : ℕ → Bool) (xs : List ℕ) → ((x : ℕ) → 0 < occurrences x xs → p x ≡ false) → find p xs ≡ none
find_none p [] f = refl
find_none p (x ∷ xs) f = find_no p x xs (f x (occurrences_head x xs)) ∙ find_none p xs (λ y h. f y (occurrences_tail y x xs h))

-- dropping entries that fail a weaker test changes nothing
pub find_keep : (p q : ℕ → Bool) → Stronger p q → (xs : List ℕ) → find p (keep q xs) ≡ find p xs
find_keep p q i [] = refl
find_keep p q i (x ∷ xs) =
    by_test (p x)
    (λ y. rw (i x y, y))
    (λ n. by_test (q x) (λ y. rw (y, n) (find_keep p q i xs)) (λ m. rw (m, n) (find_keep p q i xs)))

-- tests that agree on the entries find the same one
pub find_same : (p q : ℕ → Bool) (xs : List ℕ) → ((x : ℕ) → 0 < occurrences x xs → p x ≡ q x) → find p xs ≡ find q xs
find_same p q [] e = refl
find_same p q (x ∷ xs) e = rw (e x (occurrences_head x xs), find_same p q xs (λ y h. e y (occurrences_tail y x xs h)))

-- ---- two tests that agree but for x

not_first : (p : ℕ → Bool) (x : ℕ) (xs : List ℕ) → find p (x ∷ xs) ≢ some x → p x ≡ false
not_first p x xs d = by_test (p x) (λ y. absurd (d (find_yes p x xs y))) (λ n. n)

both_fail : (p q : ℕ → Bool) (y : ℕ) (xs : List ℕ) → p y ≡ false → q y ≡ false → find p xs ≡ find q xs → find p (y ∷ xs) ≡ find q (y ∷ xs)
both_fail p q y xs u v e = find_no p y xs u ∙ e ∙ sym (find_no q y xs v)

-- they find the same, unless x is what one of them finds
pub find_off : (p q : ℕ → Bool) (x : ℕ) (xs : List ℕ) → ((y : ℕ) → y ≢ x → p y ≡ q y) → find p xs ≢ some x → find q xs ≢ some x → find p xs ≡ find q xs
find_off p q x [] h a b = refl
find_off p q x (y ∷ xs) h a b =
    let rest : p y ≡ false → q y ≡ false → find p (y ∷ xs) ≡ find q (y ∷ xs) =
    λ u v. both_fail p q y xs u v (find_off p q x xs h (λ r. a (find_no p y xs u ∙ r)) (λ r. b (find_no q y xs v ∙ r))) in
    by_same y x
    (λ e. rest (not_first p y xs (rw (← e) at a)) (not_first q y xs (rw (← e) at b)))
    (λ d. by_test (q y) (λ v. rw (h y d, v)) (λ v. rest (h y d ∙ v) v))

-- taking x out changes what is found only where that was x
pub find_removed : (p q : ℕ → Bool) (x : ℕ) (xs : List ℕ) → ((y : ℕ) → y ≢ x → p y ≡ q y) → q x ≡ false → find p xs ≢ some x → find q xs ≡ find p xs
find_removed p q x xs h n a = sym (find_off p q x xs h a (λ e. true≢false (sym (find_passes q xs x e) ∙ n)))

-- putting x in changes it only to x
pub find_added : (p q : ℕ → Bool) (x : ℕ) (xs : List ℕ) → ((y : ℕ) → y ≢ x → p y ≡ q y) → p x ≡ false → (find q xs ≡ find p xs) ⊎ (find q xs ≡ some x)
find_added p q x xs h n =
    by_answer (find q xs) x
    (λ e. inr e)
    (λ d. inl (sym (find_off p q x xs h (λ e. true≢false (sym (find_passes p xs x e) ∙ n)) d)))

-- ---- a search from the front, k entries on

pub find_next : (p : ℕ → Bool) (xs : List ℕ) (k : ℕ) → k < length xs → p (get_or xs k 0) ≡ false → find p (drop k xs) ≡ find p (drop (k + 1) xs)
find_next p xs k h n = rw (add-one, drop-cons xs k 0 h) (find_no p (get_or xs k 0) (drop (suc k) xs) n)

pub find_hit : (p : ℕ → Bool) (xs : List ℕ) (k : ℕ) → k < length xs → p (get_or xs k 0) ≡ true → find p (drop k xs) ≡ some (get_or xs k 0)
find_hit p xs k h y = rw (drop-cons xs k 0 h) (find_yes p (get_or xs k 0) (drop (suc k) xs) y)

pub find_over : (p : ℕ → Bool) (xs : List ℕ) (k : ℕ) → length xs ≤ k → find p (drop k xs) ≡ none
find_over p xs k h = rw (drop_of_length-le xs h)
