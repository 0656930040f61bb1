-- The refusals of each call, in document 01's order. That it has no others is the law of its list in proofs/RefusedLaws.antt.
-- Assumes nothing.
use Rattle.std.specs.Prelude.{List, [], ◌∷◌, ℕ}

-- ---- orders

-- `ConsistentPermutation::new` and `started`. 1: "n above 2^30 (orders, reservoirs, rounds)"
abbrev pub order_refusals : List ℕ
order_refusals = 1 ∷ []

-- `ConsistentPermutation::next`. 12: "any of the fifteen counters above its layer's size, or one met at it in a descent"
abbrev pub order_next_refusals : List ℕ
order_next_refusals = 12 ∷ 1 ∷ []

-- `OrderWalk::new`: of these the ones known before the first output
abbrev pub walk_new_refusals : List ℕ
walk_new_refusals = 12 ∷ 1 ∷ []

-- `place`. 1: "n above 2^30"; 02, §1: "13, the location isn't below n; tested after 1"
abbrev pub place_refusals : List ℕ
place_refusals = 1 ∷ 13 ∷ []

-- ---- reservoirs

-- `ConsistentReservoir::new`: "1 n above 2^30", "2 k is 0", "3 k above n", "4 a lent list shorter than what must be written"
abbrev pub open_refusals : List ℕ
open_refusals = 1 ∷ 2 ∷ 3 ∷ 4 ∷ []

-- `ConsistentReservoir::next`. 12: "a record against its memory"; 4: ".. the used length that the call would end with"
abbrev pub admit_refusals : List ℕ
admit_refusals = 12 ∷ 4 ∷ []

-- `ConsistentReservoir::grow_layer`: "7 layer growth with used length above k. 8 the same at layer 14."
abbrev pub grow_layer_refusals : List ℕ
grow_layer_refusals = 12 ∷ 7 ∷ 8 ∷ 4 ∷ []

-- `ConsistentReservoir::reservoir`. 4: the other list has no k places
abbrev pub sample_refusals : List ℕ
sample_refusals = 12 ∷ 4 ∷ []
