-- `layers::feistel::HalfBits::two_rounds` meets its contract.
-- Assumes nothing.
use Rattle.layers.specs.Layer.{rounds}
use Rattle.layers.proofs.feistel.HalfBits.two_rounds.Goals as goal

pub returns : goal.returns
unfolding rounds
returns c = rw (c.round.ensures, c.round-t.ensures)
