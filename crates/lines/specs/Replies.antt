-- Document 01, **The line program**: what is answered to a line, and its text.
-- Assumes nothing.
use Rattle.std.specs.Prelude.{List, [], ◌∷◌, ◌++◌, ℕ, suc}
use Rattle.std.proofs.Math.Option.{Option, none, some}
use Rattle.answers.specs.Answers.{Answer, refusal, result}
use Rattle.rounds.specs.Ledgers.{Sheet}
use Rattle.fields.specs.Printing.{decimal_of, tabbed, line_end}

-- what is answered to a line that is not refused
pub data Reply : Type 0 where
  opened : Reply
  admitted : ℕ → ℕ → Reply
  nothing : Reply
  joined : ℕ → Reply
  withdrawn : ℕ → Reply
  planned : List Sheet → Reply

-- ---- answers

-- the words, in bytes: opened, admit, none, joined, withdrawn, refused
abbrev pub opened_word : List ℕ
opened_word = 111 ∷ 112 ∷ 101 ∷ 110 ∷ 101 ∷ 100 ∷ []

abbrev pub admit_word : List ℕ
admit_word = 97 ∷ 100 ∷ 109 ∷ 105 ∷ 116 ∷ []

abbrev pub none_word : List ℕ
none_word = 110 ∷ 111 ∷ 110 ∷ 101 ∷ []

abbrev pub joined_word : List ℕ
joined_word = 106 ∷ 111 ∷ 105 ∷ 110 ∷ 101 ∷ 100 ∷ []

abbrev pub withdrawn_word : List ℕ
withdrawn_word = 119 ∷ 105 ∷ 116 ∷ 104 ∷ 100 ∷ 114 ∷ 97 ∷ 119 ∷ 110 ∷ []

abbrev pub refused_word : List ℕ
refused_word = 114 ∷ 101 ∷ 102 ∷ 117 ∷ 115 ∷ 101 ∷ 100 ∷ []

-- in a plan every sheet has a terminal (`sheets` in rounds' Plans.antt); the text of none is never asked for
abbrev pub slot_text : Option ℕ → List ℕ
slot_text none = []
slot_text (some s) = tabbed s

-- "Plan prints place, location, slot a line": the line of a place,
unfoldable pub place_line : ℕ → Sheet → List ℕ
place_line place s = decimal_of place ++ tabbed s.location ++ slot_text s.terminal ++ line_end

-- and those of all sheets from a place on
abbrev pub place_lines : ℕ → List Sheet → List ℕ
place_lines place [] = []
place_lines place (s ∷ ss) = place_line place s ++ place_lines (suc place) ss

-- "`admit` prints the word admit, the location in and the one out, or the word none alone."
unfoldable pub reply_text : Reply → List ℕ
reply_text opened = opened_word ++ line_end
reply_text (admitted v o) = admit_word ++ tabbed v ++ tabbed o ++ line_end
reply_text nothing = none_word ++ line_end
reply_text (joined s) = joined_word ++ tabbed s ++ line_end
reply_text (withdrawn s) = withdrawn_word ++ tabbed s ++ line_end
reply_text (planned ss) = place_lines 0 ss

-- a refusal is printed by its number
unfoldable pub text_of : Answer Reply → List ℕ
text_of (result r) = reply_text r
text_of (refusal c) = refused_word ++ tabbed c ++ line_end
