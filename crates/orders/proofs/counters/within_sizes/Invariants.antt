-- `orders::counters::within_sizes` meets its contract.
-- Assumes nothing.
use mathlib.Core.Path.{◌≡◌}
use Rattle.orders.specs.OrderCalls.{within}
use Rattle.orders.proofs.CounterLaws.{within_from}
use Rattle.orders.proofs.counters.within_sizes.Given as goal

abbrev pub invariant-loop-number : goal.invariant-loop-number
invariant-loop-number l = within_from l.cs l.number ≡ within l.cs
