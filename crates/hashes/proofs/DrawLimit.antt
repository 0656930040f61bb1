-- The last draws that count, over made-up draws: no real state makes so many.
-- Assumes nothing.
use mathlib.Core.Path.{◌≡◌, refl, ap}
use mathlib.Core.List.{List, [], ◌∷◌, ◌++◌, replicate}
use Prim.Native.Nat.{ℕ, zero, suc}
use lib.ListN.{length}
use Rattle.hashes.specs.Hashes.{feed, draw, draws, draw_limit, later_numbers, numbers, prefix_minima, bucket_hashes, bucket_draws}

-- 255 draws of 7, then 5, then 4
abbrev made_up : List ℕ
made_up = replicate 255 7 ++ 5 ∷ 4 ∷ []

-- "The 256th draw may still give a hash, and no 257th is made"
pub last_draw : bucket_hashes 4 made_up ≡ 7 ∷ 5 ∷ []
unfolding bucket_hashes numbers later_numbers
last_draw = refl

-- "the Rust goes on there": with no limit the 257th would have given 4
pub one_more : prefix_minima [] (numbers 4 made_up) ≡ 7 ∷ 5 ∷ 4 ∷ []
unfolding numbers later_numbers
one_more = refl

-- a state's bucket has just so many draws
draws_length : (c d : ℕ) → length (draws c d) ≡ c
unfolding draws
draws_length zero d = refl
draws_length (suc c) d = ap suc (draws_length c (draw d))

pub draw_count : (s b : ℕ) → length (bucket_draws s b) ≡ draw_limit
unfolding bucket_draws
draw_count s b = draws_length draw_limit (feed s b)
