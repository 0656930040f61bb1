-- `orders::outputs::Outputs::count_below` meets its contract.
-- Assumes nothing.
use mathlib.Core.Path.{◌≡◌}
use Prim.Native.Nat.{◌+◌, ◌-◌, ◌≤◌}
use Rattle.lists.specs.Lists.{count_below}
use Rattle.orders.specs.InnerPasses.{outs}
use Rattle.orders.proofs.outputs.Outputs.count_below.Given as goal

abbrev pub invariant-loop-x : goal.invariant-loop-x
invariant-loop-x l =
    let key = l.self.key in
    let i = l.self.layer.number in
    (l.t ≤ l.x) × (l.t + count_below l.bound (outs key i l.x (l.u - l.x)) ≡ count_below l.bound (outs key i l.fn.from (l.u - l.fn.from)))
