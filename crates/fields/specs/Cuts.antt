-- Document 01, **The line program**: bytes that come in pieces, cut into lines.
-- Assumes nothing.
use Rattle.std.specs.Prelude.{◌≡◌, cond, List, [], ◌∷◌, ◌++◌, map, ℕ, suc, ◌≤◌, min, eqb, leb, length, take}
use Rattle.answers.specs.Answers.{result, After, after}
use Rattle.lists.specs.Lists.{written}
use Rattle.fields.specs.declared.cuts.Cutting.{Cutting}
use Rattle.fields.specs.declared.cuts.Cutting.TheVariants.{Open, Whole, Joined}

-- Of a line its first 81 bytes are held, whatever its length: that is enough to know that it has more than 80.
abbrev pub held_most : ℕ
held_most = 81

-- ---- one cut

-- how many bytes there are before the first line feed; all, where there is none
abbrev pub end_of : List ℕ → ℕ
end_of [] = 0
end_of (b ∷ l) = cond (eqb b 10) 0 (suc (end_of l))

-- what a list holds of a line when bytes come behind the first m of it: no more than it has room for
unfoldable pub kept : List ℕ → ℕ → List ℕ → List ℕ
kept line m bytes = take (min (length line) held_most) (take m line ++ bytes)

-- A cut of a piece, where the first m bytes of `line` are held: up to and with the first line feed, or all of it. It is never refused,
-- and leaves the list that holds the line. A line that stands in the piece, with nothing held, is not written into the list; it too is
-- given no further than the list has room for.
unfoldable pub cut_call : List ℕ → ℕ → List ℕ → After (List ℕ) Cutting
cut_call piece m line =
    let e = end_of piece in
    let bytes = kept line m (take e piece) in
    cond (leb (length piece) e)
    (after (result (Open (length bytes))) (written bytes line))
    (cond (eqb m 0)
    (after (result (Whole (length bytes) (suc e))) line)
    (after (result (Joined (length bytes) (suc e))) (written bytes line)))

-- ---- what a cut gives

-- how many bytes of the piece
abbrev pub taken_by : Cutting → List ℕ → ℕ
taken_by (Open held) piece = length piece
taken_by (Whole size taken) piece = taken
taken_by (Joined size taken) piece = taken

-- the line, in the piece or in the list
abbrev pub line_of : Cutting → List ℕ → List ℕ → List (List ℕ)
line_of (Open held) piece line = []
line_of (Whole size taken) piece line = take size piece ∷ []
line_of (Joined size taken) piece line = take size line ∷ []

-- how many bytes of a line that has not ended
abbrev pub held_by : Cutting → ℕ
held_by (Open held) = held
held_by (Whole size taken) = 0
held_by (Joined size taken) = 0

-- ---- an input

-- the parts of an input, one after the other
abbrev pub whole : List (List ℕ) → List ℕ
whole [] = []
whole (p ∷ ps) = p ++ whole ps

-- each of some lines cut down to what can be held of it
abbrev pub firsts : List (List ℕ) → List (List ℕ)
firsts ls = map (take held_most) ls

-- "Lines end in a line feed, which the last input line may lack": bytes that are held at the end of an input are a line
abbrev pub unended : List ℕ → List (List ℕ)
unended [] = []
unended (b ∷ l) = (b ∷ l) ∷ []

-- the lines of the rest of an input, of whose first line some bytes are held, byte after byte
abbrev pub cut_lines : List ℕ → List ℕ → List (List ℕ)
cut_lines held [] = unended held
cut_lines held (b ∷ l) = cond (eqb b 10) (held ∷ cut_lines [] l) (cut_lines (take held_most (held ++ (b ∷ []))) l)

-- A run of cuts to the end of an input, from what is held of a line: the parts of the pieces that the cuts take, and the lines that
-- they give, with the one that the input's end ends. A cut is lent any list long enough that has the held bytes in front.
pub data Cuts : List ℕ → List (List ℕ) → List (List ℕ) → Type 0 where
  ends : (held : List ℕ) → Cuts held [] (unended held)
  cuts : (piece line : List ℕ) (m : ℕ) → m ≤ held_most → held_most ≤ length line → (c : Cutting) (line' : List ℕ) → after (result c) line' ≡ cut_call piece m line
      → (parts lines : List (List ℕ)) → Cuts (take (held_by c) line') parts lines
      → Cuts (take m line) (take (taken_by c piece) piece ∷ parts) (line_of c piece line' ++ lines)
