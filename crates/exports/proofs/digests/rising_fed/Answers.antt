-- `exports::digests::rising_fed` meets its contract.
-- Assumes nothing.
use Rattle.std.proofs.Common.{sym, ap, ◌∙◌}
use Rattle.exports.specs.Coded.{fed_all}
use Rattle.hashes.proofs.WalkLaws.{rise_turn}
use Rattle.exports.proofs.DigestLaws.{fed, fed_all_of}
use Rattle.exports.proofs.digests.rising_fed.Goals as goal

pub loop-x-smaller : goal.loop-x-smaller
loop-x-smaller c =
    let l = c.loop-x in
    (fed rise_turn l.d c.in-Some.x c.next.new.self l.walk l.invariant.0 (rw c.in-Some.is at c.next.ensures)).less

pub loop-x-preserved : goal.loop-x-preserved
loop-x-preserved c =
    let l = c.loop-x in
    let t = fed rise_turn l.d c.in-Some.x c.next.new.self l.walk l.invariant.0 (rw c.in-Some.is at c.next.ensures) in
    (t.goes_on, rw c.seq_builder-d.ensures (t.same ∙ l.invariant.1))

pub returns : goal.returns
returns c =
    let l = c.loop-x in
    let done = fed_all_of rise_turn c.next.new.self l.walk l.invariant.0 (rw c.in_default.is at c.next.ensures) in
    sym (ap (fed_all l.d) done) ∙ l.invariant.1
