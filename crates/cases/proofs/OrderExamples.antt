-- Document 01's orders and reservoirs at a few keys, against numbers of the original.
-- Assumes nothing.
use mathlib.Core.Path.{◌≡◌, refl}
use mathlib.Core.List.{[], ◌∷◌}
use mathlib.Core.Option.{none, some}
use Prim.Native.Nat.{ℕ, ◌+◌, ◌^◌}
use Rattle.answers.specs.Answers.{result, refusal, after, refused}
use Rattle.answers.specs.Steps.{answers}
use Rattle.lists.specs.Lists.{below, same, not_below, every, standing, last, written}
use Rattle.words.specs.Words.{rotate_right}
use Rattle.layers.specs.Layer.{start, round_function, next_key, round, rounds, over, layer, top_bits}
use Rattle.layers.specs.Inverses.{input_of, layer_invert}
use Rattle.orders.specs.Places.{place, place_call}
use Rattle.orders.specs.Orders.{log2, layer_of, none_counted, output, counted, zero_top, whole, P}
use Rattle.orders.specs.OrderCalls.{order_of, within, next_call}
use Rattle.orders.specs.Reservoirs.{counts, opening, incoming, up_to_zeros, grown, wider}
use Rattle.orders.specs.ReservoirCalls.{sample, fitting, reservoir_of, open_call, exchange_by, exchange, admit_call, reservoir_state}

abbrev key : ℕ
key = 0x9E37_79B9_7F4A_7C15

-- three layers
pub order_of_20 : P key 20 ≡ 6 ∷ 0 ∷ 18 ∷ 14 ∷ 12 ∷ 19 ∷ 4 ∷ 1 ∷ 8 ∷ 10 ∷ 5 ∷ 17 ∷ 11 ∷ 13 ∷ 3 ∷ 9 ∷ 7 ∷ 15 ∷ 16 ∷ 2 ∷ []
unfolding P whole layer_of log2 below output counted zero_top top_bits layer start rounds round round_function next_key over rotate_right
order_of_20 = refl

-- the places of its numbers at places 0, 11 and 19; and what is refused, 1 before 13
pub place_of_6 : place_call key 20 6 ≡ result 0
unfolding place_call place same P whole layer_of log2 below output counted zero_top top_bits layer start rounds round round_function next_key over rotate_right
place_of_6 = refl

pub place_of_17 : place_call key 20 17 ≡ result 11
unfolding place_call place same P whole layer_of log2 below output counted zero_top top_bits layer start rounds round round_function next_key over rotate_right
place_of_17 = refl

pub place_of_2 : place_call key 20 2 ≡ result 19
unfolding place_call place same P whole layer_of log2 below output counted zero_top top_bits layer start rounds round round_function next_key over rotate_right
place_of_2 = refl

pub place_of_20 : place_call key 20 20 ≡ refusal 13
unfolding place_call
place_of_20 = refl

pub place_above : place_call key (2 ^ 30 + 1) (2 ^ 30 + 1) ≡ refusal 1
unfolding place_call
place_above = refl

-- layer 2 gives 50 at 30
pub input_of_50 : layer_invert 2 0x1234_5678_9ABC_DEF0 50 ≡ result 30
unfolding layer_invert input_of layer start rounds round round_function next_key over rotate_right
input_of_50 = refl

-- a call each, then none
pub calls_of_5 : answers next_call 6 (order_of 0 5 none_counted) ≡ result (some 0) ∷ result (some 4) ∷ result (some 3) ∷ result (some 2) ∷ result (some 1) ∷ result none ∷ []
unfolding answers next_call within every layer_of log2 below output counted zero_top top_bits layer start rounds round round_function next_key over rotate_right
calls_of_5 = refl

-- a counter above its layer's size, and one met at it in a descent: nothing changes
pub counter_above : next_call (order_of 0 5 (5 ∷ 0 ∷ 0 ∷ 0 ∷ 0 ∷ 0 ∷ 0 ∷ 0 ∷ 0 ∷ 0 ∷ 0 ∷ 0 ∷ 0 ∷ 0 ∷ 0 ∷ [])) ≡ after (refusal 12) (order_of 0 5 (5 ∷ 0 ∷ 0 ∷ 0 ∷ 0 ∷ 0 ∷ 0 ∷ 0 ∷ 0 ∷ 0 ∷ 0 ∷ 0 ∷ 0 ∷ 0 ∷ 0 ∷ []))
unfolding next_call within every
counter_above = refl

pub counter_met : next_call (order_of 0 5 (4 ∷ 0 ∷ 0 ∷ 0 ∷ 0 ∷ 0 ∷ 0 ∷ 0 ∷ 0 ∷ 0 ∷ 0 ∷ 0 ∷ 0 ∷ 0 ∷ 0 ∷ [])) ≡ after (refusal 12) (order_of 0 5 (4 ∷ 0 ∷ 0 ∷ 0 ∷ 0 ∷ 0 ∷ 0 ∷ 0 ∷ 0 ∷ 0 ∷ 0 ∷ 0 ∷ 0 ∷ 0 ∷ 0 ∷ []))
unfolding next_call within every layer_of log2 below output counted zero_top top_bits layer start rounds round round_function next_key over rotate_right
counter_met = refl

-- key 0, k 2, n 4: an admit that looks through 8 outputs of layer 1 and ends with 5 places
pub opened_2_of_4 : open_call 2 4 0 (9 ∷ 9 ∷ 9 ∷ 9 ∷ 9 ∷ []) ≡ after (result (reservoir_of 0 2 4 0 2)) (0 ∷ 3 ∷ 9 ∷ 9 ∷ 9 ∷ [])
unfolding open_call opening written P whole layer_of log2 counts below output counted zero_top top_bits layer start rounds round round_function next_key over rotate_right
opened_2_of_4 = refl

pub admitted_by_growth : admit_call (reservoir_of 0 2 4 0 2) (0 ∷ 3 ∷ 9 ∷ 9 ∷ 9 ∷ []) ≡ after (result (some (4, 3))) (reservoir_state (reservoir_of 0 2 5 1 5) (13 ∷ 12 ∷ 11 ∷ 0 ∷ 4 ∷ []))
unfolding admit_call fitting sample every last exchange exchange_by incoming not_below standing written grown up_to_zeros wider counts below zero_top top_bits layer start rounds round round_function next_key over rotate_right
admitted_by_growth = refl

-- with 4 places it is refused, and nothing is changed
pub too_short : admit_call (reservoir_of 0 2 4 0 2) (0 ∷ 3 ∷ 9 ∷ 9 ∷ []) ≡ refused 4 (reservoir_state (reservoir_of 0 2 4 0 2) (0 ∷ 3 ∷ 9 ∷ 9 ∷ []))
unfolding admit_call fitting sample every last exchange exchange_by incoming not_below standing written grown up_to_zeros wider counts below zero_top top_bits layer start rounds round round_function next_key over rotate_right
too_short = refl

-- key 3, k 1, n 1: layer 1 is passed over
pub layer_skipped : admit_call (reservoir_of 3 1 1 0 1) (0 ∷ 9 ∷ []) ≡ after (result (some (19, 0))) (reservoir_state (reservoir_of 3 1 20 2 2) (47 ∷ 19 ∷ []))
unfolding admit_call fitting sample every last exchange exchange_by incoming not_below standing written grown up_to_zeros wider counts below zero_top top_bits layer start rounds round round_function next_key over rotate_right
layer_skipped = refl

-- a record that no open reached: 5 stands twice
pub twice_listed : admit_call (reservoir_of 0 1 2 1 3) (5 ∷ 5 ∷ 1 ∷ []) ≡ after (result (some (5, 1))) (reservoir_state (reservoir_of 0 1 6 1 2) (5 ∷ 5 ∷ 1 ∷ []))
unfolding admit_call fitting sample every last exchange exchange_by incoming not_below standing written counts below
twice_listed = refl
