-- `layers::feistel::HalfBits::next_key` meets its contract.
-- Assumes nothing.
use Rattle.layers.specs.Layer.{next_key}
use Rattle.layers.proofs.feistel.HalfBits.next_key.Goals as goal

pub returns : goal.returns
unfolding next_key
returns c = rw c.rotate_right.ensures
