-- The refusals of each call, in document 01's order. That it has no others is the law of its list in proofs/RefusedLaws.antt.
-- Assumes nothing.
use Rattle.std.specs.Prelude.{List, [], ◌∷◌, ℕ}

-- `prev` and `into_prev`. 1: "n above .. 2^62 (hashes, choosers)"
abbrev pub prev_refusals : List ℕ
prev_refusals = 1 ∷ []

-- `next`. 1, as above
abbrev pub next_refusals : List ℕ
next_refusals = 1 ∷ []

-- both walks' `new`. 1, as above
abbrev pub walk_refusals : List ℕ
walk_refusals = 1 ∷ []

-- the falling walk's `next`. 1, as above: of a record made by hand. The rising walk's is not refused.
abbrev pub fall_refusals : List ℕ
fall_refusals = 1 ∷ []
