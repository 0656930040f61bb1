-- `orders::outputs::Outputs::stretch` meets its contract.
-- Assumes nothing.
use mathlib.Core.Path.{◌≡◌}
use Prim.Native.Nat.{◌*◌}
use Rattle.orders.specs.Reservoirs.{L}
use Rattle.orders.specs.InnerPasses.{inputs_from}
use Rattle.orders.proofs.outputs.Outputs.stretch.Given as goal

abbrev pub invariant-loop-s : goal.invariant-loop-s
invariant-loop-s l =
    let key = l.self.key in
    let i = l.self.layer.number in
    inputs_from key i (256 * l.s) l.left ≡ L key i l.fn.k
