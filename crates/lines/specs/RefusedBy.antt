-- The refusals of each call, in document 01's order. That it has no others is the law of its list in proofs/RefusedLaws.antt.
-- Assumes nothing.
use Rattle.std.specs.Prelude.{List, [], ◌∷◌, ℕ}

-- `parse`. 12: "a program line of no known form"
abbrev pub parse_refusals : List ℕ
parse_refusals = 12 ∷ []

-- `Session::feed`. 12: more bytes are held than there can be; 4: "a lent list shorter than what must be written"
abbrev pub feed_refusals : List ℕ
feed_refusals = 12 ∷ 4 ∷ []

-- `Session::finish`
abbrev pub finish_refusals : List ℕ
finish_refusals = 12 ∷ 4 ∷ []

-- ---- lines

-- a line is refused 12, or what its open, admit, join, withdraw or plan is
abbrev pub line_refusals : List ℕ
line_refusals = 12 ∷ 1 ∷ 2 ∷ 3 ∷ 4 ∷ 9 ∷ 10 ∷ 11 ∷ []
