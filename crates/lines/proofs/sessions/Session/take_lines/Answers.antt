-- `lines::sessions::Session::take_lines` meets its contract.
-- Assumes nothing.
use mathlib.Core.Path.{refl, sym, ◌∙◌}
use Prim.Native.Nat.{◌-◌}
use native.Mathlib.Omega.{arith}
use borrow.Author.Rules.{rules}
use borrow.Author.Tests.{eqb-true, eqb-false}
use lib.ListN.{length, drop, length-drop}
use lib.Seq.{take_all}
use Rattle.lines.proofs.FeedLaws.{going_start, going_more, took_all, took_full}
use Rattle.lines.proofs.sessions.Session.take_lines.Goals as goal
use Rattle.lines.proofs.sessions.Session.take_lines.Goals.{then-loop-self-test+else-text-most, else-loop-self-test}

pub loop-self-init : goal.loop-self-init
loop-self-init c = record { memory_lent = search rules; text_lent = (refl, refl); going = rw c.requires.empty (going_start _ _ _ _ _ _ c.requires.held.0) }

pub loop-self-preserved : goal.loop-self-preserved
loop-self-preserved c =
    let l = c.loop-self in
    let n = c.take_line-taken.result in
    let e = c.take_line-taken.ensures in
    let rest = take_all (length l.rest.now - n) (drop n l.rest.now) (simp length-drop (omega arith)) in
    record {
      memory_lent = search rules;
      text_lent = (e.text_lent.0 ∙ l.invariant.text_lent.0, e.text_lent.1 ∙ l.invariant.text_lent.1);
      going = going_more _ _ _ _ _ _ _ _ _ _ l.invariant.going _ _ _ _ _ _ _ (omega (arith, c.if-text-most.true)) rest c.take_line-taken.new.text.fits e.steps;
    }

pub returns-clause-took : goal.returns-clause-took
returns-clause-took c =
    let g = c.loop-self.invariant.going in
    let n = length c.loop-self.rest.now in
    elim c.loop-self-test.branch [
      | then-loop-self-test+else-text-most w ↦ took_full _ _ _ _ _ _ _ _ _ _ g (omega (arith, eqb-false n 0 (sym w.loop-self-test.ensures))) w.if-text-most.false
      | else-loop-self-test w ↦ took_all _ _ _ _ _ _ _ _ _ _ g (omega (arith, eqb-true n 0 (sym w.loop-self-test.ensures)))
    ]
