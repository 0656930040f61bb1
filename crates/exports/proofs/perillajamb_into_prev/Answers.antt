-- `exports::perillajamb_into_prev` meets its contract.
-- Assumes nothing.
use Rattle.std.proofs.Common.{ap, ◌∙◌}
use Rattle.hashes.specs.declared.ConsistentHasher.{ConsistentHasher}
use Rattle.hashes.specs.Calls.{prev_call}
use Rattle.exports.specs.Coded.{coded_hash}
use Rattle.exports.proofs.perillajamb_into_prev.Goals as goal

pub returns : goal.returns
returns c =
    let n = c.args.n in
    c.hash.ensures ∙ ap coded_hash (c.into_prev.ensures ∙ ap (λ (h : ConsistentHasher). prev_call h.state n) c.new.ensures)
