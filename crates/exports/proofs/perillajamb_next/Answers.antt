-- `exports::perillajamb_next` meets its contract.
-- Assumes nothing.
use Rattle.std.proofs.Common.{ap, ◌∙◌}
use Rattle.hashes.specs.declared.ConsistentHasher.{ConsistentHasher}
use Rattle.hashes.specs.Calls.{next_call}
use Rattle.exports.specs.Coded.{coded_hash}
use Rattle.exports.proofs.perillajamb_next.Goals as goal

pub returns : goal.returns
returns c =
    let n = c.args.n in
    c.hash.ensures ∙ ap coded_hash (c.next.ensures ∙ ap (λ (h : ConsistentHasher). next_call h.state n) c.new.ensures)
