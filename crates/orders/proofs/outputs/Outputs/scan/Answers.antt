-- `orders::outputs::Outputs::scan` meets its contract.
-- Assumes nothing.
use mathlib.Core.Path.{◌≡◌}
use mathlib.Core.Bool.{cond}
use Prim.Native.Nat.{◌-◌, min}
use native.Mathlib.Omega.{arith}
use lib.Dec.{ltb}
use Rattle.lists.specs.Lists.{below, not_below}
use Rattle.lists.proofs.Tests.{not_below_yes, not_below_no}
use Rattle.orders.proofs.ScanLaws.{fewer_is, scan_start, scan_turn}
use Rattle.orders.proofs.outputs.Outputs.scan.Goals as goal
use Rattle.orders.proofs.outputs.Outputs.scan.Goals.{then-y-bound, else-y-bound}

pub loop-x-init : goal.loop-x-init
loop-x-init c = scan_start _ _ _ _

pub loop-x-preserved : goal.loop-x-preserved
unfolding below
loop-x-preserved c =
    let l = c.loop-x in
    let y = c.at-y.result in
    let b = c.args.bound in
    let left : l.left - c.from-left.result ≡ cond (below b y) (l.left - 1) l.left =
    rw c.from-left.ensures (fewer_is (ltb y b) l.left) in
    let low : c.if-y-bound.low ≡ cond (not_below b y) (min y l.low) l.low =
    elim c.if-y-bound.branch [
      | then-y-bound w ↦ rw (w.low-is, not_below_no y b w.if-y-bound.true)
      | else-y-bound w ↦ rw (w.low-is, not_below_yes y b w.if-y-bound.false) (omega (arith, w.min-low.ensures))
    ] in
    scan_turn _ _ _ _ _ _ _ _ _ _ (omega (arith, c.size-size.ensures)) (omega arith) c.at-y.ensures left low l.invariant
