-- `hashes::buckets::fed` meets its contract.
-- Assumes nothing.
use Rattle.hashes.specs.Hashes.{feed}
use Rattle.hashes.proofs.buckets.fed.Goals as goal

pub returns : goal.returns
unfolding feed
returns c = c.splitmix64.ensures
