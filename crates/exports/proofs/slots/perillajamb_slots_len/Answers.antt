-- `exports::slots::perillajamb_slots_len` meets its contract.
-- Assumes nothing.
use Rattle.std.proofs.Common.{ap, ◌∙◌}
use Rattle.exports.specs.Coded.{coded_number}
use Rattle.exports.proofs.slots.perillajamb_slots_len.Goals as goal

pub returns : goal.returns
returns c = c.number.ensures.value ∙ ap coded_number c.len.ensures
