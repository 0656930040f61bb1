-- `stocktake::run` meets its contract.
-- Assumes nothing.
use Rattle.std.proofs.Common.{◌<◌, length, take, length-take, arith}
use Rattle.stocktake.specs.Pieces.{stands}
use Rattle.stocktake.proofs.PieceLaws.{running_starts, running_on, running_ends}
use Rattle.stocktake.proofs.run.Goals as goal

pub loop-init : goal.loop-init
loop-init g c = rw c.new-session.ensures (c.requires.input, c.requires.fits, running_starts _ _ _)

pub returns-then-size-eq0-clause-answered : goal.returns-then-size-eq0-clause-answered
returns-then-size-eq0-clause-answered g c =
    let input = c.get.new.input in
    let got = c.in_ok-size.ensures.bytes in
    let some : 0 < length input = omega (arith, c.get.auto.input, c.loop.invariant.0) in
    let now = stands c.fed.new.session c.fed.new.line c.fed.new.memory in
    running_ends now _ (take c.in_ok-size.size input) c.loop.invariant.2 c.in_ok-fed.ensures.written got.0
    (omega (arith, length-take c.in_ok-size.size input, c.if-size-eq0.true)) (got.1 c.if-size-eq0.true some)

pub loop-preserved : goal.loop-preserved
loop-preserved g c =
    let input = c.get.new.input in
    let some : 0 < length input = omega (arith, c.get.auto.input, c.loop.invariant.0) in
    let piece = take c.in_ok-size.size input in
    let bytes : 0 < length piece = omega (arith, length-take c.in_ok-size.size input, c.in_ok-size.ensures.within, c.if-size-eq0.false) in
    let now = stands c.fed.new.session c.fed.new.line c.fed.new.memory in
    (some, c.fed.ensures.fits, running_on now _ piece c.loop.invariant.2 c.in_ok-fed.ensures.written c.in_ok-size.ensures.bytes.0 bytes)
