-- The refusals of each call, in document 01's order. That it has no others is the law of its list in proofs/RefusedLaws.antt.
-- Assumes nothing.
use Rattle.std.specs.Prelude.{List, [], ◌∷◌, ℕ}

-- `test_sizes`: "1 n above 2^30 (orders, reservoirs, rounds) or 2^62 (hashes, choosers). 2 k is 0 (reservoir, round). 3 k above n"
abbrev pub sizes_refusals : List ℕ
sizes_refusals = 1 ∷ 2 ∷ 3 ∷ []

-- `short_refusal`: "4 a lent list shorter than what must be written" after them
abbrev pub short_refusals : List ℕ
short_refusals = 1 ∷ 2 ∷ 3 ∷ 4 ∷ []
