-- `orders::place::climbed` meets its contract.
-- Assumes nothing.
use mathlib.Core.Path.{◌≡◌}
use Prim.Native.Nat.{◌-◌, ◌<◌}
use Rattle.layers.specs.Layer.{size}
use Rattle.orders.specs.InnerPasses.{climb}
use Rattle.orders.proofs.place.climbed.Given as goal

abbrev pub invariant-loop-number : goal.invariant-loop-number
invariant-loop-number l =
    (l.t < size l.number) × (climb l.key l.number l.t (l.fn.top.number - l.number) ≡ climb l.key l.fn.own.number l.fn.place (l.fn.top.number - l.fn.own.number))
