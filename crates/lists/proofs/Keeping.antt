-- The entries of a list that pass a test.
-- Assumes nothing.
use mathlib.Core.Path.{◌≡◌, refl, sym, ap, ◌∙◌}
use mathlib.Core.Bool.{Bool, true, false, true≢false, ◌&&◌}
use mathlib.Core.List.{List, [], ◌∷◌, map}
use Prim.Native.Nat.{ℕ, zero, suc, ◌+◌, ◌≤◌, ◌<◌}
use native.Mathlib.Omega.{arith}
use lib.ListN.{length, drop, get_or}
use Rattle.lists.specs.Lists.{keep, every, below, from}
use Rattle.lists.proofs.Tests.{below_yes, below→lt, by_test, by_same}

-- every entry passes
abbrev pub All : (ℕ → Bool) → List ℕ → Type 0
All p [] = Unit {0}
All p (x ∷ xs) = (p x ≡ true) × All p xs

pub all_keep : (p : ℕ → Bool) (xs : List ℕ) → All p xs → keep p xs ≡ xs
all_keep p [] a = refl
all_keep p (x ∷ xs) a = rw a.0 (ap (λ (r : List ℕ). x ∷ r) (all_keep p xs a.1))

-- a test of the outputs, counted over the inputs
pub keep_map : (p : ℕ → Bool) (f : ℕ → ℕ) (xs : List ℕ) → length (keep (λ x. p (f x)) xs) ≡ length (keep p (map f xs))
keep_map p f [] = refl
keep_map p f (x ∷ xs) = by_test (p (f x)) (λ y. rw y (ap suc (keep_map p f xs))) (λ m. rw m (keep_map p f xs))

pub keep_same : (p q : ℕ → Bool) → ((x : ℕ) → p x ≡ q x) → (xs : List ℕ) → keep p xs ≡ keep q xs
keep_same p q e [] = refl
keep_same p q e (x ∷ xs) =
    by_test (q x)
    (λ y. rw (e x, y) (ap (λ (r : List ℕ). x ∷ r) (keep_same p q e xs)))
    (λ m. rw (e x, m) (keep_same p q e xs))

pub keep_length : (p : ℕ → Bool) (xs : List ℕ) → length (keep p xs) ≤ length xs
keep_length p [] = omega arith
keep_length p (x ∷ xs) = by_test (p x) (λ y. rw y (omega (arith, keep_length p xs))) (λ m. rw m (omega (arith, keep_length p xs)))

-- what passes p passes q
abbrev pub Stronger : (ℕ → Bool) → (ℕ → Bool) → Type 0
Stronger p q = (x : ℕ) → p x ≡ true → q x ≡ true

pub below_below : {n m : ℕ} → n ≤ m → Stronger (below n) (below m)
below_below {n} {m} h x e = below_yes x m (let l : x < n = below→lt e in omega arith)

pub weaker_no : (p q : ℕ → Bool) → Stronger p q → (x : ℕ) → q x ≡ false → p x ≡ false
weaker_no p q i x f = by_test (p x) (λ t. absurd (true≢false (sym (i x t) ∙ f))) (λ g. g)

-- a weaker test first changes nothing
pub keep_keep : (p q : ℕ → Bool) → Stronger p q → (xs : List ℕ) → keep p (keep q xs) ≡ keep p xs
keep_keep p q i [] = refl
keep_keep p q i (x ∷ xs) =
    by_test (p x)
    (λ y. rw (i x y, y) (ap (λ (r : List ℕ). x ∷ r) (keep_keep p q i xs)))
    (λ n. by_test (q x) (λ y. rw (y, n) (keep_keep p q i xs)) (λ m. rw (m, n) (keep_keep p q i xs)))

-- ---- every entry passes

pub all_of_length : (p : ℕ → Bool) (xs : List ℕ) → length (keep p xs) ≡ length xs → All p xs
all_of_length p [] e = tt
all_of_length p (x ∷ xs) e =
    by_test (p x)
    (λ y. (y, all_of_length p xs (let e' : suc (length (keep p xs)) ≡ suc (length xs) = rw y at e in omega arith)))
    (λ m. absurd (let e' : length (keep p xs) ≡ suc (length xs) = rw m at e in omega (arith, keep_length p xs)))

pub all_stronger : (p q : ℕ → Bool) → Stronger p q → (xs : List ℕ) → All p xs → All q xs
all_stronger p q i [] a = tt
all_stronger p q i (x ∷ xs) a = (i x a.0, all_stronger p q i xs a.1)

pub all_drop : (p : ℕ → Bool) (xs : List ℕ) → All p xs → All p (drop 1 xs)
all_drop p [] a = tt
all_drop p (x ∷ xs) a = a.1

-- an entry by its index, or 0 past the end, where 0 passes too
pub all_at : (p : ℕ → Bool) → p 0 ≡ true → (xs : List ℕ) → All p xs → (t : ℕ) → p (get_or xs t 0) ≡ true
all_at p z [] a t = z
all_at p z (x ∷ xs) a zero = a.0
all_at p z (x ∷ xs) a (suc t) = all_at p z xs a.1 t

-- both of two tests that pass together
pub both : (a b : Bool) → (a && b) ≡ true → (a ≡ true) × (b ≡ true)
both true b e = (refl, e)
both false b e = absurd (true≢false (sym e))

pub every_all : (p : ℕ → Bool) (xs : List ℕ) → All p xs → every p xs ≡ true
unfolding every
every_all p [] a = refl
every_all p (x ∷ xs) a = rw a.0 (every_all p xs a.1)

pub all_every : (p : ℕ → Bool) (xs : List ℕ) → every p xs ≡ true → All p xs
unfolding every
all_every p [] e = tt
all_every p (x ∷ xs) e =
    by_test (p x)
    (λ y. (y, all_every p xs (rw y at e)))
    (λ m. absurd (true≢false (sym (rw m at e))))

-- ---- the numbers from a up

pub every_from : (p : ℕ → Bool) (a c : ℕ) → ((i : ℕ) → a ≤ i → i < a + c → p i ≡ true) → every p (from a c) ≡ true
unfolding every
every_from p a zero h = refl
every_from p a (suc c) h = rw (h a (omega arith) (omega arith)) (every_from p (suc a) c (λ i l u. h i (omega arith) (omega arith)))

pub every_at : (p : ℕ → Bool) (a c i : ℕ) → every p (from a c) ≡ true → a ≤ i → i < a + c → p i ≡ true
unfolding every
every_at p a zero i e l u = absurd (omega arith)
every_at p a (suc c) i e l u =
    let b = both (p a) (every p (from (suc a) c)) e in
    by_same i a (λ s. rw s b.0) (λ d. every_at p (suc a) c i b.1 (omega arith) (omega arith))
