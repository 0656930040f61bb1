-- `exports::permutations::perillajamb_place` meets its contract.
-- Assumes nothing.
use Rattle.std.proofs.Common.{ap, ◌∙◌}
use Rattle.exports.specs.Coded.{coded_number}
use Rattle.exports.proofs.permutations.perillajamb_place.Goals as goal

pub returns : goal.returns
returns c = c.number.ensures.value ∙ ap coded_number c.place.ensures
