-- `layers::feistel::HalfBits::over` meets its contract.
-- Assumes nothing.
use Rattle.std.proofs.Common.{arith, shl_exact}
use lib.Bits.{or_shifted}
use Rattle.layers.specs.Layer.{over}
use Rattle.layers.proofs.feistel.HalfBits.over.Goals as goal

pub returns : goal.returns
unfolding over
returns c =
    let a = c.args in
    let h = a.self.bits in
    rw (shl_exact h h 32 c.requires.left (omega (arith, a.self.few))) (or_shifted a.s.l h a.s.r c.requires.right)
