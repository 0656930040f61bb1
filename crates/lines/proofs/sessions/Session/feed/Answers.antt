-- `lines::sessions::Session::feed` meets its contract.
-- Assumes nothing.
use native.Mathlib.Omega.{arith}
use borrow.Author.Rules.{rules}
use Rattle.lines.proofs.FeedLaws.{feed_many, feed_past, feed_short, feed_close, feed_took}
use Rattle.lines.proofs.sessions.Session.feed.Goals as goal
use Rattle.lines.proofs.sessions.Session.feed.Goals.{then-self-gt-HELD_MOST-via-then-self-gt-HELD_MOST, then-self-gt-HELD_MOST-via-else-self-gt-HELD_MOST+then-line-self}

pub returns-then-self-gt-HELD_MOST-clause-answer : goal.returns-then-self-gt-HELD_MOST-clause-answer
returns-then-self-gt-HELD_MOST-clause-answer c = elim c.then-self-gt-HELD_MOST.branch [
  | then-self-gt-HELD_MOST-via-then-self-gt-HELD_MOST w ↦ feed_many _ _ _ _ _ w.if-self-gt-HELD_MOST.true
  | then-self-gt-HELD_MOST-via-else-self-gt-HELD_MOST+then-line-self w ↦ feed_past _ _ _ _ _ w.if-line-self.true
]

pub returns-then-line-lt-HELD_MOST-clause-answer : goal.returns-then-line-lt-HELD_MOST-clause-answer
returns-then-line-lt-HELD_MOST-clause-answer c = feed_short _ _ _ _ _ c.if-self-gt-HELD_MOST.false c.if-line-self.false c.if-line-lt-HELD_MOST.true

pub returns-in_default-clause-answer : goal.returns-in_default-clause-answer
returns-in_default-clause-answer c =
    feed_close _ _ _ _ _ c.if-self-gt-HELD_MOST.false c.if-line-self.false (omega (arith, c.in_default.ensures))

pub returns-clause-answer : goal.returns-clause-answer
returns-clause-answer c =
    let a = c.args in
    let t = c.take_lines-taken in
    let took =
    feed_took _ a.line.now a.piece.now a.out.now a.self.now.held c.if-self-gt-HELD_MOST.false c.if-line-self.false _ _ _ _ _ _ _ (omega (arith, c.in-Some.ensures, c.well_formed))
    c.if-line-lt-HELD_MOST.false (omega (arith, c.in-Some.ensures, c.well_formed)) t.auto.line t.ensures.took in
    search rules
