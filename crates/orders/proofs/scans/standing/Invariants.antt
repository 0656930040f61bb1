-- `orders::scans::standing` meets its contract.
-- Assumes nothing.
use mathlib.Core.Path.{◌≡◌}
use Prim.Native.Nat.{◌+◌, ◌≤◌}
use lib.ListN.{length}
use Rattle.lists.specs.Lists.{standing}
use Rattle.orders.specs.Reservoirs.{counts}
use Rattle.orders.proofs.scans.standing.Given as goal

abbrev pub invariant-loop-p : goal.invariant-loop-p
invariant-loop-p l =
    (l.k ≤ l.p) × (standing (counts (l.v + 1)) l.k l.list l.p ≡ standing (counts (l.v + 1)) l.k l.list (length l.list))
