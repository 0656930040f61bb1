-- `exports::slots::perillajamb_first_active` meets its contract.
-- Assumes nothing.
use Rattle.std.proofs.Common.{ap, ◌∙◌}
use Rattle.answers.specs.Answers.{result}
use Rattle.exports.specs.Coded.{coded_hash}
use Rattle.exports.proofs.slots.perillajamb_first_active.Goals as goal

pub returns : goal.returns
returns c = record {
  answer = c.number_or_none.ensures ∙ ap (λ o. coded_hash (result o)) c.first_active-found.ensures.answer;
  scratch = c.first_active-found.ensures.scratch;
}
