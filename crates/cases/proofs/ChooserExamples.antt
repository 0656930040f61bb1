-- Document 01's choosers at one state, against numbers of the original.
-- Assumes nothing.
use mathlib.Core.Path.{◌≡◌, refl}
use mathlib.Core.List.{[], ◌∷◌}
use Prim.Native.Nat.{ℕ}
use Rattle.lists.specs.Lists.{below, same, has, lacked}
use Rattle.words.specs.Words.{mix, wrapping_mul}
use Rattle.hashes.specs.Hashes.{feed, draw, draws, later_numbers, numbers, bucket_hashes, bucket_draws, is_set, bucket, buckets, hashes, prev}
use Rattle.hashes.specs.Calls.{prev_number}
use Rattle.choosers.specs.Choosers.{g, largest_g, S, Q}

abbrev state : ℕ
state = 0xDEAD_BEEF_CAFE_F00D

pub samples_example : S state 2 6 ≡ 2 ∷ 3 ∷ []
unfolding S largest_g g prev_number prev below hashes buckets bucket is_set bucket_hashes bucket_draws draws draw feed numbers later_numbers mix wrapping_mul
samples_example = refl

pub order_example : Q state 3 ≡ 2 ∷ 1 ∷ 0 ∷ []
unfolding Q lacked has same S largest_g g prev_number prev below hashes buckets bucket is_set bucket_hashes bucket_draws draws draw feed numbers later_numbers mix wrapping_mul
order_example = refl
