-- The hashes of a state, bucket by bucket.
-- Assumes nothing.
use mathlib.Core.Path.{◌≡◌, refl, ap}
use mathlib.Core.Bool.{true, false}
use mathlib.Core.List.{List, [], ◌∷◌}
use mathlib.Core.Option.{none, some}
use Prim.Native.Nat.{ℕ, zero, suc, ◌+◌, ◌/◌, ◌%◌, ◌^◌, ◌≤◌, ◌<◌}
use native.Mathlib.Omega.{arith}
use borrow.Author.Tests.{eq-eqb, ne_eqb}
use lib.ListN.{take}
use lib.Pow.{pow_pos}
use Rattle.lists.specs.Lists.{occurrences}
use Rattle.lists.proofs.Tests.{below_yes, below_no, by_test, by_below}
use Rattle.lists.proofs.Members.{occurrences_append}
use Rattle.hashes.specs.Hashes.{feed, draw, draws, draw_limit, numbers, later_numbers, prefix_minima, bucket_hashes, bucket_draws, is_set, bucket, buckets}
use Rattle.hashes.specs.InnerSearch.{least_of, least_from, numbers_of}
use Rattle.hashes.proofs.BucketLaws.{numbers_within, prefix_minima_within}

-- the first number and the later ones
pub numbers_open : (s i : ℕ)
    → numbers_of s i ≡ (2 ^ i + draw (feed s (2 ^ i)) % 2 ^ i) ∷ later_numbers (2 ^ i) (draws 255 (draw (feed s (2 ^ i))))
unfolding numbers_of numbers bucket_draws draws
numbers_open s i = refl

-- what the first number, x, by the first draw, d, does to the search from m up
pub least_none : (s i m d x : ℕ) → d ≡ draw (feed s (2 ^ i)) → x ≡ 2 ^ i + d % 2 ^ i → x < m → least_from m (numbers_of s i) ≡ none
least_none s i m d x e f h =
    let first : 2 ^ i + draw (feed s (2 ^ i)) % 2 ^ i < m = rw e at (rw f at h) in
    rw (numbers_open s i, below_yes _ m first)

pub least_some : (s i m d x : ℕ) → d ≡ draw (feed s (2 ^ i)) → x ≡ 2 ^ i + d % 2 ^ i → m ≤ x
    → least_from m (numbers_of s i) ≡ some (least_of m x (later_numbers (2 ^ i) (draws 255 d)))
least_some s i m d x e f h =
    let first : m ≤ 2 ^ i + draw (feed s (2 ^ i)) % 2 ^ i = rw e at (rw f at h) in
    rw (numbers_open s i, below_no _ m first, f, e)

-- no more draws are made than count
take_draws : (c d : ℕ) → take c (draws c d) ≡ draws c d
unfolding draws
take_draws zero d = refl
take_draws (suc c) d = ap (λ (r : List ℕ). draw d ∷ r) (take_draws c (draw d))

draws_count : (s b : ℕ) → take draw_limit (bucket_draws s b) ≡ bucket_draws s b
unfolding bucket_draws
draws_count s b = take_draws draw_limit (feed s b)

pub set_yes : (s i : ℕ) → s / 2 ^ i % 2 ≡ 1 → is_set s i ≡ true
unfolding is_set
set_yes s i e = eq-eqb (s / 2 ^ i % 2) 1 e

pub set_no : (s i : ℕ) → s / 2 ^ i % 2 ≡ 0 → is_set s i ≡ false
unfolding is_set
set_no s i e = ne_eqb (s / 2 ^ i % 2) 1 (λ q. omega arith)

pub bucket_set : (s i : ℕ) → is_set s i ≡ true → bucket s i ≡ prefix_minima [] (numbers_of s i)
unfolding bucket bucket_hashes numbers_of
bucket_set s i e = rw (e, draws_count s (2 ^ i))

pub bucket_clear : (s i : ℕ) → is_set s i ≡ false → bucket s i ≡ []
unfolding bucket
bucket_clear s i e = rw e

pub numbers_of_within : (s i z : ℕ) → 0 < occurrences z (numbers_of s i) → (2 ^ i ≤ z) × (z < 2 ^ suc i)
unfolding numbers_of
numbers_of_within s i z h =
    let w = numbers_within (2 ^ i) (bucket_draws s (2 ^ i)) z (pow_pos i) h in
    (w.0, omega (arith, w.1))

pub bucket_within : (s i z : ℕ) → 0 < occurrences z (bucket s i) → (2 ^ i ≤ z) × (z < 2 ^ suc i)
bucket_within s i z h =
    by_test (is_set s i)
    (λ y. numbers_of_within s i z (prefix_minima_within [] (numbers_of s i) z (rw (bucket_set s i y) at h)))
    (λ n. let e : 0 < 0 = rw (bucket_clear s i n) at h in absurd (omega arith))

-- the hashes of the first k buckets lie below 2^k, and none is 0
pub buckets_within : (s k z : ℕ) → 0 < occurrences z (buckets s k) → (0 < z) × (z < 2 ^ k)
unfolding buckets
buckets_within s zero z h = absurd (omega arith)
buckets_within s (suc k) z h =
    by_below 0 (occurrences z (buckets s k))
    (λ p. let w = buckets_within s k z p in (w.0, omega (arith, w.1)))
    (λ p. let w = bucket_within s k z (omega (arith, occurrences_append z (buckets s k) (bucket s k))) in (omega (arith, w.0, pow_pos k), w.1))
