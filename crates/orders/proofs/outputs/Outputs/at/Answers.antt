-- `orders::outputs::Outputs::at` meets its contract.
-- Assumes nothing.
use native.Mathlib.Omega.{arith}
use Rattle.orders.proofs.outputs.Outputs.at.Goals as goal

pub returns : goal.returns
returns c =
    let s = c.args.self in
    c.apply.ensures.layer s.layer.number s.key (omega (arith, s.layer.below)) s.made
