-- `exports::slots::perillajamb_slots_fits` meets its contract.
-- Assumes nothing.
use Rattle.std.proofs.Common.{ap, ◌∙◌}
use Rattle.exports.specs.Coded.{truth}
use Rattle.exports.proofs.slots.perillajamb_slots_fits.Goals as goal

pub returns : goal.returns
returns c = c.yes.ensures ∙ ap truth c.fits.ensures
