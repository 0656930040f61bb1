-- `exports::slots::perillajamb_slots_add` meets its contract.
-- Assumes nothing.
use Rattle.exports.specs.Slots.{add_crossed}
use Rattle.exports.proofs.slots.perillajamb_slots_add.Goals as goal

pub returns-in-Ok : goal.returns-in-Ok
unfolding add_crossed
returns-in-Ok c = rw (← c.add.ensures, c.in-Ok.is, c.joined.ensures)

pub returns-in-Err : goal.returns-in-Err
unfolding add_crossed
returns-in-Err c = rw (← c.add.ensures, c.in-Err.is, c.refused.ensures)
