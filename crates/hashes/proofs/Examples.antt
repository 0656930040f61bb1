-- The definitions at a few states, against numbers of the original.
-- Assumes nothing.
use mathlib.Core.Path.{◌≡◌, refl}
use mathlib.Core.List.{[], ◌∷◌}
use mathlib.Core.Option.{none, some}
use Prim.Native.Nat.{ℕ}
use Rattle.answers.specs.Answers.{result}
use Rattle.lists.specs.Lists.{below, not_below}
use Rattle.words.specs.Words.{mix, wrapping_mul}
use Rattle.hashes.specs.Hashes.{feed, draw, draws, later_numbers, numbers, bucket_hashes, bucket_draws, is_set, bucket, buckets, hashes, prev}
use Rattle.hashes.specs.Next.{smallest_from}
use Rattle.hashes.specs.Calls.{limited, next_call}
use Rattle.answers.specs.Steps.{answers}
use Rattle.hashes.specs.Walks.{fall, rise}

-- buckets 2, 8 and 32; bit 2^63 is ignored. Bucket 8 has the numbers 12, 15, 15, 12, 13, of which only the first is a hash.
abbrev state : ℕ
state = 0x8000_0000_0000_002A

pub hashes_example : hashes state ≡ 0 ∷ 2 ∷ 12 ∷ 50 ∷ 47 ∷ []
unfolding hashes buckets bucket is_set bucket_hashes bucket_draws draws draw feed numbers later_numbers mix wrapping_mul
hashes_example = refl

-- one hash a call, then none: falling from 51, and rising from 0
pub falling_example : answers fall 6 (record { state = state; n = 51 }) ≡ result (some 50) ∷ result (some 47) ∷ result (some 12) ∷ result (some 2) ∷ result (some 0) ∷ result none ∷ []
unfolding answers fall prev below hashes buckets bucket is_set bucket_hashes bucket_draws draws draw feed numbers later_numbers mix wrapping_mul
falling_example = refl

pub rising_example : answers rise 6 (record { state = state; low = 0 }) ≡ result (some 0) ∷ result (some 2) ∷ result (some 12) ∷ result (some 47) ∷ result (some 50) ∷ result none ∷ []
unfolding answers rise smallest_from not_below hashes buckets bucket is_set bucket_hashes bucket_draws draws draw feed numbers later_numbers mix wrapping_mul
rising_example = refl

-- Document 02, §4: "misses a slot when it starts just below a power of two". 1, 3 and 7 are hashes of these states, by the original's
-- falling walk too, and rising from each begins with it.
pub start_1 : (hashes 1 ≡ 0 ∷ 1 ∷ []) × (next_call 1 1 ≡ result (some 1))
unfolding limited smallest_from not_below hashes buckets bucket is_set bucket_hashes bucket_draws draws draw feed numbers later_numbers mix wrapping_mul
start_1 = (refl, refl)

pub start_3 : (hashes 3 ≡ 0 ∷ 1 ∷ 3 ∷ []) × (next_call 3 3 ≡ result (some 3))
unfolding limited smallest_from not_below hashes buckets bucket is_set bucket_hashes bucket_draws draws draw feed numbers later_numbers mix wrapping_mul
start_3 = (refl, refl)

pub start_7 : (hashes 5 ≡ 0 ∷ 1 ∷ 7 ∷ []) × (next_call 5 7 ≡ result (some 7))
unfolding limited smallest_from not_below hashes buckets bucket is_set bucket_hashes bucket_draws draws draw feed numbers later_numbers mix wrapping_mul
start_7 = (refl, refl)
