-- `exports::slots::perillajamb_slots_get` meets its contract.
-- Assumes nothing.
use Rattle.std.proofs.Common.{ap, ◌∙◌}
use Rattle.exports.specs.Coded.{coded_number}
use Rattle.exports.proofs.SlotCrossLaws.{get_spares}
use Rattle.exports.proofs.slots.perillajamb_slots_get.Goals as goal

pub returns : goal.returns
returns c = record {
  answer = c.number.ensures.value ∙ ap coded_number c.get.ensures.answer;
  scratch_after = get_spares _ _ _ _ c.number.ensures.no_refusal c.get.ensures.scratch_after;
}
