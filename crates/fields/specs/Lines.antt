-- Document 01, **The line program**: "a record a line, fields parted by tabs", and "Lines end in a line feed, which the last input
-- line may lack". A byte is a number; a tab is 9, a line feed 10.
-- Assumes nothing.
use Rattle.std.specs.Prelude.{Bool, true, false, cond, ◌&&◌, List, [], ◌∷◌, ℕ, eqb}

-- a byte put in front of the first part; where there is no part yet, it begins one
abbrev pub onto : ℕ → List (List ℕ) → List (List ℕ)
onto b [] = (b ∷ []) ∷ []
onto b (p ∷ ps) = (b ∷ p) ∷ ps

-- "fields parted by tabs": a line has one field more than tabs
abbrev pub fields : List ℕ → List (List ℕ)
fields [] = [] ∷ []
fields (b ∷ l) = cond (eqb b 9) ([] ∷ fields l) (onto b (fields l))

-- The lines of an input, without their line feeds: each line feed ends one, and bytes after the last one are a line too. An empty
-- input has none.
abbrev pub lines_of : List ℕ → List (List ℕ)
lines_of [] = []
lines_of (b ∷ l) = cond (eqb b 10) ([] ∷ lines_of l) (onto b (lines_of l))

-- whether two are the same bytes
abbrev pub alike : List ℕ → List ℕ → Bool
alike [] [] = true
alike [] (b ∷ t) = false
alike (a ∷ s) [] = false
alike (a ∷ s) (b ∷ t) = eqb a b && alike s t
