-- `exports::slots::perillajamb_slots_remove` meets its contract.
-- Assumes nothing.
use Rattle.exports.specs.Slots.{remove_crossed}
use Rattle.exports.proofs.slots.perillajamb_slots_remove.Goals as goal

pub returns-in-Ok : goal.returns-in-Ok
unfolding remove_crossed
returns-in-Ok c = rw (← c.remove.ensures, c.in-Ok.is, c.from.ensures)

pub returns-in-Err : goal.returns-in-Err
unfolding remove_crossed
returns-in-Err c = rw (← c.remove.ensures, c.in-Err.is, c.refused.ensures)
