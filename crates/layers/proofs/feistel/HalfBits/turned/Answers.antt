-- `layers::feistel::HalfBits::turned` meets its contract.
-- Assumes nothing.
use Rattle.std.proofs.Common.{arith}
use Rattle.layers.specs.KeyedLayers.{new_right}
use Rattle.layers.proofs.RoundLaws.{masked}
use Rattle.layers.proofs.feistel.HalfBits.turned.Goals as goal

pub returns : goal.returns
unfolding new_right
returns c =
    let a = c.args in
    rw (c.product-p.ensures, masked a.self.bits a.self.mask _ (omega (arith, a.self.few)) a.self.masks)
