-- `orders::outputs::Outputs::standing` meets its contract.
-- Assumes nothing.
use mathlib.Core.Path.{◌≡◌}
use Prim.Native.Nat.{◌+◌, ◌≤◌}
use Rattle.lists.specs.Lists.{standing}
use Rattle.orders.specs.Reservoirs.{counts, outputs}
use Rattle.orders.proofs.outputs.Outputs.standing.Given as goal

abbrev pub invariant-loop-p : goal.invariant-loop-p
invariant-loop-p l =
    let xs = outputs l.self.key l.self.layer.number in
    (l.k ≤ l.p) × (standing (counts (l.v + 1)) l.k xs l.p ≡ standing (counts (l.v + 1)) l.k xs l.u)
