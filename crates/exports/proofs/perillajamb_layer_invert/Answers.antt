-- `exports::perillajamb_layer_invert` meets its contract.
-- Assumes nothing.
use Rattle.std.proofs.Common.{ap, ◌∙◌}
use Rattle.exports.specs.Coded.{coded_number}
use Rattle.exports.proofs.perillajamb_layer_invert.Goals as goal

pub returns : goal.returns
returns c = c.number.ensures.value ∙ ap coded_number c.layer_invert.ensures
