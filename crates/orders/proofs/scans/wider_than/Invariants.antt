-- `orders::scans::wider_than` meets its contract.
-- Assumes nothing.
use mathlib.Core.Path.{◌≡◌}
use Prim.Native.Nat.{◌-◌}
use Rattle.lists.specs.Lists.{first_from}
use Rattle.orders.specs.Reservoirs.{wider}
use Rattle.orders.proofs.WideLaws.{more_than}
use Rattle.orders.proofs.scans.wider_than.Given as goal

abbrev pub invariant-loop-number : goal.invariant-loop-number
invariant-loop-number l = first_from (more_than l.key l.k) l.number (15 - l.number) ≡ wider l.key l.k l.fn.j.number
