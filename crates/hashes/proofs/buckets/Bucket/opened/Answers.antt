-- `hashes::buckets::Bucket::opened` meets its contract.
-- Assumes nothing.
use Rattle.hashes.proofs.buckets.Bucket.opened.Goals as goal

pub returns : goal.returns
returns c = rw (c.drawn.ensures, c.fed.ensures, c.power.ensures)
