-- `orders::outputs::Outputs::zeros` meets its contract.
-- Assumes nothing.
use mathlib.Core.Path.{◌≡◌}
use Prim.Native.Nat.{◌-◌}
use native.Mathlib.Omega.{arith}
use Rattle.orders.specs.InnerPasses.{rank_of}
use Rattle.orders.proofs.outputs.Outputs.zeros.Goals as goal

pub returns : goal.returns
unfolding rank_of
returns c =
    let e : c.args.u - 0 ≡ c.args.u = omega arith in
    rw (e, c.quarter.ensures) at c.count_below.ensures
