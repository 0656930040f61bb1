-- `orders::consistent_reservoir::ConsistentReservoir::new` meets its contract.
-- Assumes nothing.
use mathlib.Core.Path.{◌≡◌}
use Prim.Native.Nat.{◌^◌}
use native.Mathlib.Omega.{arith}
use lib.Seq.{length-take-le}
use Rattle.std.proofs.lemmas.Result.{err_from_is_err_and}
use Rattle.answers.proofs.MakingLaws.{Sizes, sizes_yes}
use Rattle.orders.specs.InnerPasses.{scan_of}
use Rattle.orders.proofs.LayLaws.{arranged_front}
use Rattle.orders.proofs.OpenLaws.{open_no, open_few, open_fit, open_refused, open_done}
use Rattle.orders.proofs.consistent_reservoir.ConsistentReservoir.new.Goals as goal
use Rattle.orders.proofs.consistent_reservoir.ConsistentReservoir.new.Goals.{After-scan-used, Then-list-k, In_ok-test_sizes}

sizes : (c : In_ok-test_sizes) → Sizes (2 ^ 30) 1 c.args.k c.args.n
sizes c = sizes_yes _ _ _ _ _ (rw (c.from.ensures, c.from-2.ensures, c.from-3.ensures) at c.in_ok-test_sizes.ensures)

scan_is : (c : After-scan-used) → c.scan-used.result ≡ scan_of c.args.key c.of-layer.result.number c.args.n c.args.k
scan_is c = rw (c.new.ensures.layer, c.new.ensures.key) at c.scan-used.ensures

pub returns-in_err-test_sizes : goal.returns-in_err-test_sizes
returns-in_err-test_sizes c =
    let p = err_from_is_err_and c.from_residual.result c.from_residual.ensures.1 in
    let a = c.args in
    rw (p.1, p.2) (open_no a.key a.k a.n a.list.now _ (rw (c.from.ensures, c.from-2.ensures, c.from-3.ensures) at c.in_err-test_sizes.ensures))

pub returns-then-list-k : goal.returns-then-list-k
returns-then-list-k c =
    let a = c.args in
    open_few a.key a.k a.n a.list.now (sizes (goal.at.returns-then-list-k c).In_ok-test_sizes) (omega arith)

pub returns-then-list-used : goal.returns-then-list-used
returns-then-list-used c =
    let a = c.args in
    let at = goal.at.returns-then-list-used c in
    open_refused a.key a.k a.n a.list.now (sizes at.In_ok-test_sizes) _ c.of-layer.ensures _ (scan_is at.After-scan-used) (omega arith)

pub lay-requires-clause-size : goal.lay-requires-clause-size
lay-requires-clause-size c =
    let a = c.args in
    let at = goal.at.lay-requires-clause-size c in
    rw (length-take-le _ a.list.now c.if-list-used.false)
    (open_fit a.key a.k a.n a.list.now (sizes at.In_ok-test_sizes) _ c.of-layer.ensures _ (scan_is at.After-scan-used))

pub returns : goal.returns
returns c =
    let a = c.args in
    let at = goal.at.returns c in
    rw (c.lay.ensures, arranged_front _ _ _ a.list.now c.if-list-used.false)
    (open_done a.key a.k a.n a.list.now (sizes at.In_ok-test_sizes) _ c.of-layer.ensures _ (scan_is at.After-scan-used) (omega arith))

pub of-layer-requires : goal.of-layer-requires
of-layer-requires c = (sizes (goal.at.of-layer-requires c).In_ok-test_sizes).limited
