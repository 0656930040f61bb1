-- Document 02, §5 and §8: "from one line", written as in the line program.
-- Assumes nothing.
use Rattle.std.specs.Prelude.{cond, List, [], ◌∷◌, ℕ, leb, length}
use Rattle.std.proofs.Math.Option.{Option, none, some}
use Rattle.fields.specs.Lines.{lines_of}

-- "lines to 80 bytes"
unfoldable pub short_line : List ℕ → Option (List ℕ)
short_line line = cond (leb (length line) 80) (some line) none

-- the only one of some lines: none where there is no line, or a second one
abbrev pub sole : List (List ℕ) → Option (List ℕ)
sole [] = none
sole (line ∷ []) = short_line line
sole (line ∷ more ∷ rest) = none

-- The only line of an input. A second line counts, though it is empty; the line's own line feed may be lacking.
unfoldable pub only_line : List ℕ → Option (List ℕ)
only_line input = sole (lines_of input)
