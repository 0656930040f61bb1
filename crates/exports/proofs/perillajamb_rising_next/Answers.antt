-- `exports::perillajamb_rising_next` meets its contract.
-- Assumes nothing.
use Rattle.std.proofs.Common.{ap, ◌∙◌}
use Rattle.answers.specs.Steps.{Step}
use Rattle.hashes.specs.declared.ConsistentHashIterator.{ConsistentHashIterator}
use Rattle.exports.specs.Coded.{coded_hash}
use Rattle.exports.proofs.perillajamb_rising_next.Goals as goal

pub returns : goal.returns
returns c = c.hash.ensures ∙ ap (λ (t : Step ConsistentHashIterator). coded_hash t.answer) c.next.ensures
