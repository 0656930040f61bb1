-- `orders::counters::walk` meets its contract.
-- Assumes nothing.
use mathlib.Core.Path.{◌≡◌}
use Prim.Native.Nat.{◌-◌}
use Rattle.orders.specs.InnerCounters.{seek, walk_of}
use Rattle.orders.proofs.counters.walk.Given as goal

abbrev pub invariant-loop-x : goal.invariant-loop-x
invariant-loop-x l =
    let j = l.top.layer.number in
    seek l.top.key j l.n l.x (l.size - l.x) ≡ walk_of l.top.key j l.n l.from
