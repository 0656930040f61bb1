-- `exports::slots::perillajamb_slots_is_empty` meets its contract.
-- Assumes nothing.
use Rattle.std.proofs.Common.{ap, ◌∙◌}
use Rattle.exports.specs.Coded.{coded_truth}
use Rattle.exports.proofs.slots.perillajamb_slots_is_empty.Goals as goal

pub returns : goal.returns
returns c = c.yes_or_no.ensures ∙ ap coded_truth c.is_empty.ensures
