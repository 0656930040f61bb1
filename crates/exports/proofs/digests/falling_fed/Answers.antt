-- `exports::digests::falling_fed` meets its contract.
-- Assumes nothing.
use Rattle.std.proofs.Common.{sym, ap, ◌∙◌}
use Rattle.exports.specs.Coded.{fed_all}
use Rattle.hashes.proofs.WalkLaws.{fall_turn}
use Rattle.exports.proofs.DigestLaws.{fed, fed_all_of, fed_ok}
use Rattle.exports.proofs.digests.falling_fed.Goals as goal

pub unwrap-requires : goal.unwrap-requires
unwrap-requires c = fed_ok fall_turn c.next.result c.next.new.self c.loop-x.walk c.loop-x.invariant.0 c.next.ensures

pub loop-x-smaller : goal.loop-x-smaller
loop-x-smaller c =
    let l = c.loop-x in
    (fed fall_turn l.d c.in-Some.x c.next.new.self l.walk l.invariant.0 (rw (c.unwrap.ensures, c.in-Some.is) at c.next.ensures)).less

pub loop-x-preserved : goal.loop-x-preserved
loop-x-preserved c =
    let l = c.loop-x in
    let t = fed fall_turn l.d c.in-Some.x c.next.new.self l.walk l.invariant.0 (rw (c.unwrap.ensures, c.in-Some.is) at c.next.ensures) in
    (t.goes_on, rw c.seq_builder-d.ensures (t.same ∙ l.invariant.1))

pub returns : goal.returns
returns c =
    let l = c.loop-x in
    let done = fed_all_of fall_turn c.next.new.self l.walk l.invariant.0 (rw (c.unwrap.ensures, c.in_default.is) at c.next.ensures) in
    sym (ap (fed_all l.d) done) ∙ l.invariant.1
