-- `orders::counters::raise` meets its contract.
-- Assumes nothing.
use mathlib.Core.Path.{◌≡◌}
use Prim.Native.Nat.{ℕ, ◌-◌, ◌^◌, ◌≤◌, ◌<◌}
use Rattle.orders.specs.Orders.{counter}
use Rattle.orders.specs.InnerCounters.{raises}
use Rattle.orders.proofs.counters.raise.Given as goal

abbrev pub invariant-loop-number : goal.invariant-loop-number
invariant-loop-number l = ((k : ℕ) → l.number ≤ k → k < l.fn.top.number → counter l.cs k ≤ 2 ^ 30) × (raises l.cs l.number (l.fn.top.number - l.number) ≡ raises l.initial.cs l.fn.low.number (l.fn.top.number - l.fn.low.number))
