-- `orders::outputs::Outputs::inputs_to_zero` meets its contract.
-- Assumes nothing.
use mathlib.Core.Path.{◌≡◌}
use mathlib.Core.Bool.{cond}
use Prim.Native.Nat.{◌-◌, ◌^◌}
use native.Mathlib.Omega.{arith}
use lib.Dec.{ltb}
use Rattle.lists.specs.Lists.{below}
use Rattle.orders.proofs.ScanLaws.{fewer_is, inputs_turn}
use Rattle.orders.proofs.outputs.Outputs.inputs_to_zero.Goals as goal

pub loop-x-preserved : goal.loop-x-preserved
unfolding below
loop-x-preserved c =
    let l = c.loop-x in
    let y = c.at.result in
    let q = 4 ^ c.args.self.layer.number in
    let left : l.left - c.from-left.result ≡ cond (below q y) (l.left - 1) l.left =
    rw (c.from-left.ensures, c.quarter-quarter.ensures) (fewer_is (ltb y q) l.left) in
    (omega (arith, c.size-size.ensures), inputs_turn (below q) c.args.self.key c.args.self.layer.number l.left l.x y _ (omega (arith, c.size-size.ensures)) (omega arith) c.at.ensures left l.invariant.1)
