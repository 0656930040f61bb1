-- `rounds::sheets::terminal` meets its contract.
-- Assumes nothing.
use Rattle.std.proofs.Common.{◌∙◌}
use Rattle.rounds.proofs.DealLaws.{slot_found}
use Rattle.rounds.proofs.sheets.terminal.Goals as goal

pub returns : goal.returns
returns c = c.unwrap_or.ensures ∙ slot_found _ _ _ _ _ _ _ c.location_state-state.ensures c.first_active.ensures.answer
