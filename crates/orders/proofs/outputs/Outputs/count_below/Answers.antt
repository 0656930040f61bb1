-- `orders::outputs::Outputs::count_below` meets its contract.
-- Assumes nothing.
use mathlib.Core.Path.{◌≡◌}
use mathlib.Core.Bool.{cond}
use Prim.Native.Nat.{◌+◌}
use native.Mathlib.Nat.{zero-add}
use native.Mathlib.Omega.{arith}
use lib.Dec.{ltb}
use Rattle.orders.proofs.ScanLaws.{more_is, test_le, count_turn, count_done}
use Rattle.orders.proofs.outputs.Outputs.count_below.Goals as goal

pub loop-x-init : goal.loop-x-init
loop-x-init c = (omega arith, zero-add _)

pub loop-x-preserved : goal.loop-x-preserved
loop-x-preserved c =
    let l = c.loop-x in
    let v = l.invariant in
    let test = c.from-t.ensures in
    let b = ltb c.at.result c.args.bound in
    let t : l.t + c.from-t.result ≡ cond b (l.t + 1) l.t = rw test (more_is b l.t) in
    (omega (arith, test, test_le b), count_turn _ _ _ _ _ _ _ _ c.loop-x-test.true c.at.ensures t v.1)

pub returns : goal.returns
returns c = count_done _ _ _ _ _ _ (omega arith) c.loop-x.invariant.1
