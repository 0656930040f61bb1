-- Many calls of `next` on one chooser.
-- Assumes nothing.
use Rattle.std.specs.Prelude.{List, ℕ}
use Rattle.answers.specs.Steps.{Step}
use Rattle.choosers.specs.ChooserCalls.{chooser_of, next_call, ChooserState, chooser_state}

abbrev pub next_step : ChooserState → Step ChooserState
next_step w = next_call w.chooser w.list

-- a new chooser, before its first `next`
abbrev pub walk_from : ℕ → ℕ → List ℕ → ChooserState
walk_from s n l = chooser_state (chooser_of s n 0) l
