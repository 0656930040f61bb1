-- `stocktake::fed` meets its contract.
-- Assumes nothing.
use Rattle.std.proofs.Common.{◌≡◌, ◌<◌, ◌-◌, length, take, drop, length-take, length-drop, arith, sym}
use borrow.Author.Tests.{eqb-true, eqb-false}
use lib.Seq.{take_all}
use Rattle.stocktake.specs.Pieces.{stands}
use Rattle.stocktake.proofs.PieceLaws.{going_on, going_ends}
use Rattle.stocktake.proofs.fed.Goals as goal

pub returns-then-is_empty-clause-written : goal.returns-then-is_empty-clause-written
returns-then-is_empty-clause-written g c =
    let rest = c.loop-taken.rest.now in
    let n = c.in_ok-taken.taken in
    let left = take (length rest - n) (drop n rest) in
    let none : length left ≡ 0 = eqb-true (length left) 0 (sym c.if-is_empty.ensures) in
    let now = stands c.step.new.session c.step.new.line c.step.new.memory in
    going_ends now n c.loop-taken.invariant.1 c.in_ok-taken.ensures.written (omega (arith, none, length-take (length rest - n) (drop n rest), length-drop n rest))

pub loop-taken-preserved : goal.loop-taken-preserved
loop-taken-preserved g c =
    let rest = c.loop-taken.rest.now in
    let n = c.in_ok-taken.taken in
    let left = take (length rest - n) (drop n rest) in
    let some : 0 < length left = omega (arith, eqb-false (length left) 0 (sym c.if-is_empty.ensures)) in
    let all : left ≡ drop n rest = take_all (length rest - n) (drop n rest) (omega (arith, length-drop n rest)) in
    let now = stands c.step.new.session c.step.new.line c.step.new.memory in
    (c.step.ensures.fits, going_on now n c.loop-taken.invariant.1 c.in_ok-taken.ensures.written left all some c.in_ok-taken.ensures.some)
