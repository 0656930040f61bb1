-- `exports::perillajamb_falling_next` meets its contract.
-- Assumes nothing.
use Rattle.std.proofs.Common.{ap, ◌∙◌}
use Rattle.answers.specs.Steps.{Step}
use Rattle.hashes.specs.declared.ConsistentHashRevIterator.{ConsistentHashRevIterator}
use Rattle.exports.specs.Coded.{coded_hash}
use Rattle.exports.proofs.perillajamb_falling_next.Goals as goal

pub returns : goal.returns
returns c = c.hash.ensures ∙ ap (λ (t : Step ConsistentHashRevIterator). coded_hash t.answer) c.next.ensures
