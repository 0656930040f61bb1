-- What the promises of private functions that search say. No public promise cites this file.
-- Assumes nothing.
use Rattle.std.specs.Prelude.{◌≡◌, true, false, cond, List, [], ◌∷◌, ℕ, ◌-◌, ◌^◌, ◌≤◌, ◌<◌, min}
use Rattle.std.proofs.Math.Option.{Option, none, some, get_or}
use Rattle.std.specs.Int.Count.{count_leading_zeros}
use Rattle.lists.specs.Lists.{keep, below, largest}
use Rattle.hashes.specs.Hashes.{draws, later_numbers, numbers, bucket_draws, is_set, buckets}

-- the numbers of bucket 2^i of state s
unfoldable pub numbers_of : ℕ → ℕ → List ℕ
numbers_of s i = numbers (2 ^ i) (bucket_draws s (2 ^ i))

-- the first of the numbers that is below n
abbrev pub first_below : ℕ → List ℕ → Option ℕ
first_below n [] = none
first_below n (x ∷ xs) = cond (below n x) (some x) (first_below n xs)

-- the first number below n that the next c draws of bucket 2^j after d give, none of them its first; low where none is
unfoldable pub first_later : ℕ → ℕ → ℕ → ℕ → ℕ → ℕ
first_later n j low c d = get_or (first_below n (later_numbers (2 ^ j) (draws c d))) low

-- the least of x and of the numbers that come before the first below m
abbrev pub least_of : ℕ → ℕ → List ℕ → ℕ
least_of m x [] = x
least_of m x (y ∷ ys) = cond (below m y) x (least_of m (min x y) ys)

abbrev pub least_from : ℕ → List ℕ → Option ℕ
least_from m [] = none
least_from m (x ∷ xs) = cond (below m x) none (some (least_of m x xs))

-- how many of the buckets 2^0, .., 2^62 are below n, for n from 2 to 2^63
unfoldable pub buckets_below : ℕ → ℕ
buckets_below n = 64 - count_leading_zeros 64 (n - 1)

-- the largest hash below n in the first k buckets, 0 where none is
unfoldable pub under : ℕ → ℕ → ℕ → ℕ
under s n k = get_or (largest (keep (below n) (buckets s k))) 0

-- j is the place of the lowest bucket from 2^k up that is set, 63 where none is
pub record NextSet (s k j : ℕ) : Type 0 where
  pub from : k ≤ j
  pub to : j ≤ 63
  pub clear : (i : ℕ) → k ≤ i → i < j → is_set s i ≡ false
  pub set : j < 63 → is_set s j ≡ true
