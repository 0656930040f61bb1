-- `choosers::samples::rising` meets its contract.
-- Assumes nothing.
use mathlib.Core.Path.{sym, ◌∙◌}
use Rattle.choosers.proofs.CheckLaws.{rise_on, rise_stop, rise_end}
use Rattle.choosers.proofs.samples.rising.Goals as goal

pub returns-then-bound-x : goal.returns-then-bound-x
returns-then-bound-x c = sym (c.loop-x.invariant.2 ∙ rise_stop _ _ _ _ c.in-Some.ensures.steps c.if-bound-x.true)

pub loop-x-preserved : goal.loop-x-preserved
loop-x-preserved c = (tt, tt, c.loop-x.invariant.2 ∙ rise_on _ _ _ _ c.in-Some.ensures.steps c.if-bound-x.false)

pub returns : goal.returns
returns c = sym (c.loop-x.invariant.2 ∙ rise_end _ _ c.in-None.ensures.steps.0)
