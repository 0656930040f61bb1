-- `hashes::buckets::drawn` meets its contract.
-- Assumes nothing.
use Rattle.hashes.specs.Hashes.{draw}
use Rattle.hashes.proofs.buckets.drawn.Goals as goal

pub returns : goal.returns
unfolding draw
returns c = c.fed.ensures
