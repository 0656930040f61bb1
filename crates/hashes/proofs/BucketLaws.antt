-- One bucket: where its numbers and hashes lie, and its largest hash below a number, its smallest from a number up, by its
-- numbers alone.
-- Assumes nothing.
use mathlib.Core.Path.{◌≡◌, refl, sym, subst, ap}
use mathlib.Core.Bool.{true, false, false≢true}
use mathlib.Core.List.{List, [], ◌∷◌}
use mathlib.Core.Option.{Option, none, some}
use Prim.Native.Nat.{ℕ, ◌+◌, ◌*◌, ◌%◌, ◌≤◌, ◌<◌, min}
use native.Mathlib.Omega.{arith}
use native.Mathlib.Nat.{mod-lt, min-eq_left, min-eq_right}
use borrow.Author.Tests.{lt-ltb, le-ltb, ltb-true}
use lib.Dec.{ltb}
use Rattle.lists.specs.Lists.{keep, below, not_below, occurrences, join, largest, smallest}
use Rattle.lists.proofs.Tests.{below_yes, below_no, not_below_yes, not_below_no, by_test, by_below}
use Rattle.lists.proofs.Members.{occurrences_head, occurrences_tail, occurrences_cons, keep_within, keep_none}
use Rattle.lists.proofs.Extremes.{by_max, pick_is}
use Rattle.hashes.specs.Hashes.{later_numbers, numbers, less_than_all, prefix_minima}
use Rattle.hashes.specs.InnerSearch.{first_below, least_of, least_from}

-- ---- the numbers of bucket b lie from b up, below 2b

pub later_within : (b : ℕ) (ds : List ℕ) (z : ℕ) → 0 < b → 0 < occurrences z (later_numbers b ds) → (b ≤ z) × (z < 2 * b)
unfolding later_numbers
later_within b [] z p h = absurd (omega arith)
later_within b (d ∷ ds) z p h =
    by_below (d % (2 * b)) b
    (λ l. let e : 0 < 0 = rw (lt-ltb (d % (2 * b)) b l) at h in absurd (omega arith))
    (λ g. let i : 0 < occurrences z (d % (2 * b) ∷ later_numbers b ds) = rw (le-ltb (d % (2 * b)) b g) at h in
    occurrences_cons z (d % (2 * b)) (later_numbers b ds) i
    (λ e. (omega arith, omega (arith, mod-lt d {m = 2 * b} (omega arith))))
    (λ t. later_within b ds z p t))

pub numbers_within : (b : ℕ) (ds : List ℕ) (z : ℕ) → 0 < b → 0 < occurrences z (numbers b ds) → (b ≤ z) × (z < 2 * b)
unfolding numbers
numbers_within b [] z p h = absurd (omega arith)
numbers_within b (d ∷ ds) z p h =
    occurrences_cons z (b + d % b) (later_numbers b ds) h
    (λ e. (omega arith, omega (arith, mod-lt d {m = b} p)))
    (λ t. later_within b ds z p t)

-- ---- its hashes are among its numbers, each less than all before it

pub prefix_minima_within : (before xs : List ℕ) (z : ℕ) → 0 < occurrences z (prefix_minima before xs) → 0 < occurrences z xs
prefix_minima_within before [] z h = h
prefix_minima_within before (x ∷ xs) z h =
    by_test (less_than_all x before)
    (λ y. let i : 0 < occurrences z (x ∷ prefix_minima (x ∷ before) xs) = rw y at h in
    occurrences_cons z x (prefix_minima (x ∷ before) xs) i
    (λ e. subst (λ (v : ℕ). 0 < occurrences v (x ∷ xs)) (sym e) (occurrences_head x xs))
    (λ t. occurrences_tail z x xs (prefix_minima_within (x ∷ before) xs z t)))
    (λ n. let i : 0 < occurrences z (prefix_minima (x ∷ before) xs) = rw n at h in occurrences_tail z x xs (prefix_minima_within (x ∷ before) xs z i))

less_first : (x y : ℕ) (ys : List ℕ) → less_than_all x (y ∷ ys) ≡ true → x < y
less_first x y ys e = by_test (ltb x y) (λ t. ltb-true x y t) (λ f. absurd (false≢true (rw f at e)))

less_rest : (x y : ℕ) (ys : List ℕ) → less_than_all x (y ∷ ys) ≡ true → less_than_all x ys ≡ true
less_rest x y ys e = by_test (ltb x y) (λ t. rw t at e) (λ f. absurd (false≢true (rw f at e)))

less_both : (x y : ℕ) (ys : List ℕ) → x < y → less_than_all x ys ≡ true → less_than_all x (y ∷ ys) ≡ true
less_both x y ys h e = rw (lt-ltb x y h) e

prefix_minima_less : (before xs : List ℕ) (z : ℕ) → 0 < occurrences z (prefix_minima before xs) → less_than_all z before ≡ true
prefix_minima_less before [] z h = absurd (omega arith)
prefix_minima_less before (x ∷ xs) z h =
    by_test (less_than_all x before)
    (λ y. let i : 0 < occurrences z (x ∷ prefix_minima (x ∷ before) xs) = rw y at h in
    occurrences_cons z x (prefix_minima (x ∷ before) xs) i
    (λ e. rw e y)
    (λ t. less_rest z x before (prefix_minima_less (x ∷ before) xs z t)))
    (λ n. let i : 0 < occurrences z (prefix_minima (x ∷ before) xs) = rw n at h in less_rest z x before (prefix_minima_less (x ∷ before) xs z i))

after_less : (x : ℕ) (before xs : List ℕ) (z : ℕ) → 0 < occurrences z (prefix_minima (x ∷ before) xs) → z < x
after_less x before xs z h = less_first z x before (prefix_minima_less (x ∷ before) xs z h)

-- ---- the largest hash below n is the first number below n

abbrev AllFrom : ℕ → List ℕ → Type 0
AllFrom n [] = Unit {0}
AllFrom n (x ∷ xs) = (n ≤ x) × AllFrom n xs

less_all : (n x : ℕ) (before : List ℕ) → x < n → AllFrom n before → less_than_all x before ≡ true
less_all n x [] h a = refl
less_all n x (y ∷ before) h a = less_both x y before (omega (arith, a.0)) (less_all n x before h a.1)

first_is_largest : (n : ℕ) (before xs : List ℕ) → AllFrom n before → largest (keep (below n) (prefix_minima before xs)) ≡ first_below n xs
first_is_largest n before [] a = refl
first_is_largest n before (x ∷ xs) a =
    by_below x n
    (λ h. rw (less_all n x before h a, below_yes x n h)
    (pick_is by_max (x ∷ keep (below n) (prefix_minima (x ∷ before) xs)) x (record {
      there = occurrences_head x (keep (below n) (prefix_minima (x ∷ before) xs));
      best = λ z i. occurrences_cons z x (keep (below n) (prefix_minima (x ∷ before) xs)) i
          (λ e. omega arith)
          (λ t. omega (arith, after_less x before xs z (keep_within (below n) z (prefix_minima (x ∷ before) xs) t)));
    })))
    (λ h.
    let rest : largest (keep (below n) (prefix_minima (x ∷ before) xs)) ≡ first_below n xs = first_is_largest n (x ∷ before) xs (h, a) in
    by_test (less_than_all x before)
    (λ y. rw (y, below_no x n h) rest)
    (λ m. rw (m, below_no x n h) rest))

pub largest_hash : (n : ℕ) (xs : List ℕ) → largest (keep (below n) (prefix_minima [] xs)) ≡ first_below n xs
largest_hash n xs = first_is_largest n [] xs tt

-- ---- the smallest hash from m up is the least number before the first below m

join_le : (x : ℕ) (o : Option ℕ) → join min x o ≤ x
join_le x none = omega arith
join_le x (some y) = omega arith

-- c is the least of those before
least_so_far : (m c : ℕ) (before xs : List ℕ) → m ≤ c
    → ((y : ℕ) → less_than_all y before ≡ true → y < c) → ((y : ℕ) → y < c → less_than_all y before ≡ true)
    → join min c (smallest (keep (not_below m) (prefix_minima before xs))) ≡ least_of m c xs
least_so_far m c before [] h p q = refl
least_so_far m c before (x ∷ xs) h p q =
    by_below x m
    (λ l.
    let none_left : keep (not_below m) (prefix_minima (x ∷ before) xs) ≡ [] = keep_none (not_below m) (prefix_minima (x ∷ before) xs)
    (λ z t. not_below_no z m (omega (arith, after_less x before xs z t))) in
    rw (q x (omega arith), not_below_no x m l, none_left, below_yes x m l))
    (λ g. rw (below_no x m g) (by_below x c
    (λ l.
    let rest : join min x (smallest (keep (not_below m) (prefix_minima (x ∷ before) xs))) ≡ least_of m x xs =
    least_so_far m x (x ∷ before) xs g (λ y e. less_first y x before e) (λ y e. less_both y x before e (q y (omega arith))) in
    rw (q x l, not_below_yes x m g, min-eq_right {n = x} {m = c} (omega arith), ← rest)
    (min-eq_right {n = join min x (smallest (keep (not_below m) (prefix_minima (x ∷ before) xs)))} {m = c}
    (omega (arith, join_le x (smallest (keep (not_below m) (prefix_minima (x ∷ before) xs)))))))
    (λ r.
    let no : less_than_all x before ≡ false = by_test (less_than_all x before) (λ t. absurd (omega (arith, p x t))) (λ f. f) in
    rw (no, min-eq_left {n = c} {m = x} r)
    (least_so_far m c (x ∷ before) xs h (λ y e. p y (less_rest y x before e)) (λ y e. less_both y x before (omega arith) (q y e))))))

pub smallest_hash : (m : ℕ) (xs : List ℕ) → smallest (keep (not_below m) (prefix_minima [] xs)) ≡ least_from m xs
smallest_hash m [] = refl
smallest_hash m (x ∷ xs) =
    by_below x m
    (λ l.
    let none_left : keep (not_below m) (prefix_minima (x ∷ []) xs) ≡ [] = keep_none (not_below m) (prefix_minima (x ∷ []) xs)
    (λ z t. not_below_no z m (omega (arith, after_less x [] xs z t))) in
    rw (not_below_no x m l, none_left, below_yes x m l))
    (λ g. rw (not_below_yes x m g, below_no x m g)
    (ap some (least_so_far m x (x ∷ []) xs g (λ y e. less_first y x [] e) (λ y e. less_both y x [] e refl))))
