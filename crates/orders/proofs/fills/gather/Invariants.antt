-- `orders::fills::gather` meets its contract.
-- Assumes nothing.
use mathlib.Core.Path.{◌≡◌}
use lib.ListN.{length}
use Rattle.orders.specs.Reservoirs.{counts}
use Rattle.orders.proofs.GatherLaws.{gathered, led}
use Rattle.orders.proofs.fills.gather.Given as goal

abbrev pub invariant-loop-x : goal.invariant-loop-x
invariant-loop-x l = (l.t ≡ length (gathered (counts l.n) l.list l.x-index)) × (l.out ≡ led (counts l.n) l.list l.initial.out l.x-index)
