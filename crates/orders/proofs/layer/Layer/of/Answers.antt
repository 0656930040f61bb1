-- `orders::layer::Layer::of` meets its contract.
-- Assumes nothing.
use mathlib.Core.Path.{sym}
use Prim.Native.Nat.{◌-◌}
use native.Mathlib.Omega.{arith}
use Rattle.orders.proofs.LogLaws.{log2_leading, layer_low, layer_two, layer_in}
use Rattle.orders.proofs.layer.Layer.of.Goals as goal

pub returns-then-n-le1 : goal.returns-then-n-le1
returns-then-n-le1 c = sym (layer_low c.args.n (omega arith))

pub returns : goal.returns
returns c = omega (arith, layer_two c.args.n (omega arith), log2_leading 32 (c.args.n - 1) (omega arith) (omega arith))

pub invariant_of-result-2 : goal.invariant_of-result-2
invariant_of-result-2 c =
    let n = c.args.n in
    record { below = omega (arith, layer_in n c.requires, layer_two n (omega arith), log2_leading 32 (n - 1) (omega arith) (omega arith)) }
