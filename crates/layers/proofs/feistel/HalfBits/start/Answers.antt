-- `layers::feistel::HalfBits::start` meets its contract.
-- Assumes nothing.
use lib.Bits.{and_mask}
use Rattle.layers.specs.Layer.{start}
use Rattle.layers.proofs.feistel.HalfBits.start.Goals as goal

pub returns : goal.returns
unfolding start
returns c = let a = c.args in rw (a.self.masks, and_mask a.x a.self.bits, and_mask _ a.self.bits)
