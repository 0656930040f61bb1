-- `layers::feistel::HalfBits::prev_key` meets its contract.
-- Assumes nothing.
use Rattle.layers.specs.Permutations.{prev_key}
use Rattle.layers.proofs.feistel.HalfBits.prev_key.Goals as goal

pub returns : goal.returns
unfolding prev_key
returns c = c.rotate_right.ensures
