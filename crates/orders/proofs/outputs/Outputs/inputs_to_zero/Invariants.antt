-- `orders::outputs::Outputs::inputs_to_zero` meets its contract.
-- Assumes nothing.
use mathlib.Core.Path.{◌≡◌}
use Prim.Native.Nat.{◌≤◌}
use Rattle.layers.specs.Layer.{size}
use Rattle.orders.specs.Reservoirs.{L}
use Rattle.orders.specs.InnerPasses.{inputs_from}
use Rattle.orders.proofs.outputs.Outputs.inputs_to_zero.Given as goal

abbrev pub invariant-loop-x : goal.invariant-loop-x
invariant-loop-x l =
    let key = l.self.key in
    let i = l.self.layer.number in
    (l.x ≤ size i) × (inputs_from key i l.x l.left ≡ L key i l.k)
