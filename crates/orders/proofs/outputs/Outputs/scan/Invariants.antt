-- `orders::outputs::Outputs::scan` meets its contract.
-- Assumes nothing.
use mathlib.Core.Path.{◌≡◌}
use Prim.Native.Nat.{◌-◌}
use Rattle.lists.specs.Lists.{below, not_below}
use Rattle.layers.specs.Layer.{size}
use Rattle.orders.specs.InnerPasses.{outs, scanned, scan_of}
use Rattle.orders.proofs.outputs.Outputs.scan.Given as goal

abbrev pub invariant-loop-x : goal.invariant-loop-x
invariant-loop-x l =
    let key = l.self.key in
    let i = l.self.layer.number in
    scanned (below l.bound) (not_below l.bound) l.left l.x l.low (outs key i l.x (size i - l.x)) ≡ scan_of key i l.bound l.k
