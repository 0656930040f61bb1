-- `orders::outputs::Outputs::stretch` meets its contract.
-- Assumes nothing.
use mathlib.Core.Path.{◌≡◌}
use Prim.Native.Nat.{◌+◌, ◌-◌, ◌*◌, ◌^◌}
use native.Mathlib.Omega.{arith}
use Rattle.lists.specs.Lists.{count_below}
use Rattle.orders.specs.InnerPasses.{outs}
use Rattle.orders.proofs.ZeroLaws.{zeros_start, stretch_past}
use Rattle.orders.proofs.outputs.Outputs.stretch.Goals as goal

pub loop-s-init : goal.loop-s-init
loop-s-init c = zeros_start _ _ _

pub loop-s-preserved : goal.loop-s-preserved
loop-s-preserved c =
    let l = c.loop-s in
    let a = c.args.self in
    let x = 256 * l.s in
    let w : x + 256 - x ≡ 256 = omega arith in
    let zeros : c.count_below-zeros.result ≡ count_below (4 ^ a.layer.number) (outs a.key a.layer.number x 256) =
    rw (w, c.quarter-quarter.ensures) at c.count_below-zeros.ensures in
    stretch_past a.key a.layer.number 256 l.left x _ (256 * (l.s + 1)) (omega arith) (omega (arith, c.size-count.ensures)) zeros (omega arith) l.invariant
