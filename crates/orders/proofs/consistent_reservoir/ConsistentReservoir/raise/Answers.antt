-- `orders::consistent_reservoir::ConsistentReservoir::raise` meets its contract.
-- Assumes nothing.
use mathlib.Core.Path.{◌≡◌}
use Prim.Native.Nat.{◌+◌, ◌^◌}
use lib.ListN.{length, take}
use lib.Seq.{length-take-le}
use Rattle.orders.specs.ReservoirCalls.{key_of, j_of}
use Rattle.orders.specs.InnerPasses.{scan_of}
use Rattle.orders.proofs.CoverLaws.{laid_over}
use Rattle.orders.proofs.AdmitLaws.{raise_fit, raise_rank, raise_refused, raise_done}
use Rattle.orders.proofs.consistent_reservoir.ConsistentReservoir.raise.Goals as goal
use Rattle.orders.proofs.consistent_reservoir.ConsistentReservoir.raise.Goals.{After-scan-inputs, Else-list-inputs}

scan_is : (c : After-scan-inputs)
    → c.scan-inputs.result ≡ scan_of (key_of c.args.self.now) (j_of c.args.self.now + 1) (4 ^ (j_of c.args.self.now + 1)) c.args.self.now.k
scan_is c =
    let e = c.new-outputs.ensures in
    rw (c.quarter.ensures, e.layer, e.key) at c.scan-inputs.ensures

room : (c : Else-list-inputs) → length (take c.scan-inputs.result.inputs c.args.list.now) ≡ c.scan-inputs.result.inputs
room c = length-take-le _ c.args.list.now c.if-list-inputs.false

pub returns-then-list-inputs : goal.returns-then-list-inputs
returns-then-list-inputs c =
    let p = c.requires in
    raise_refused _ _ (p.fit, p.full, p.layer) _ (scan_is (goal.at.returns-then-list-inputs c).After-scan-inputs) c.if-list-inputs.true

pub cover-requires-clause-size : goal.cover-requires-clause-size
cover-requires-clause-size c =
    let p = c.requires in
    let e = c.new-outputs.ensures in
    rw (room (goal.at.cover-requires-clause-size c).Else-list-inputs, e.layer) (raise_fit _ _ (p.fit, p.full, p.layer) _ (scan_is (goal.at.cover-requires-clause-size c).After-scan-inputs))

pub cover-requires-clause-rank : goal.cover-requires-clause-rank
cover-requires-clause-rank c =
    let p = c.requires in
    let e = c.new-outputs.ensures in
    rw (room (goal.at.cover-requires-clause-rank c).Else-list-inputs, e.layer, e.key) (raise_rank _ _ (p.fit, p.full, p.layer) _ (scan_is (goal.at.cover-requires-clause-rank c).After-scan-inputs))

pub returns : goal.returns
returns c =
    let p = c.requires in
    let e = c.new-outputs.ensures in
    let fill = rw (e.layer, e.key) at c.cover.ensures in
    rw (fill, laid_over _ _ _ c.args.list.now c.if-list-inputs.false) (raise_done _ _ (p.fit, p.full, p.layer) _ (scan_is (goal.at.returns c).After-scan-inputs) c.if-list-inputs.false)
