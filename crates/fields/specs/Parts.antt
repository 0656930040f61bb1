-- Document 01, **The line program**: "fields parted by tabs", of which no form there or in document 02 has more than four.
-- Assumes nothing.
use Rattle.std.specs.Prelude.{cond, List, [], ◌∷◌, ℕ, leb, length}
use Rattle.std.proofs.Math.Option.{Option, none, some}
use Rattle.fields.specs.declared.parts.Fields.{Fields}
use Rattle.fields.specs.declared.parts.Fields.TheVariants.{One, Two, Three, Four, More}

-- fields as a list; none where there are more than four
abbrev pub listed : Fields → Option (List (List ℕ))
listed (One a) = some (a.now ∷ [])
listed (Two a b) = some (a.now ∷ b.now ∷ [])
listed (Three a b c) = some (a.now ∷ b.now ∷ c.now ∷ [])
listed (Four a b c d) = some (a.now ∷ b.now ∷ c.now ∷ d.now ∷ [])
listed More = none

-- those of a line, where there are four at most
unfoldable pub at_most_four : List (List ℕ) → Option (List (List ℕ))
at_most_four fs = cond (leb (length fs) 4) (some fs) none
