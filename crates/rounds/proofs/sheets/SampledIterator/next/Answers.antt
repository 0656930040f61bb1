-- `rounds::sheets::Sampled::next` meets its contract.
-- Assumes nothing.
use mathlib.Core.Path.{sym, ap, ◌∙◌}
use native.Mathlib.Omega.{arith}
use lib.ListN.{length}
use Rattle.rounds.proofs.DealLaws.{sampled_next, sampled_past}
use Rattle.rounds.proofs.sheets.SampledIterator.next.Goals as goal

pub returns-then-x-self-clause-steps : goal.returns-then-x-self-clause-steps
returns-then-x-self-clause-steps c = sym c.loop-x.invariant ∙ sampled_next _ _ _ _ c.in-Some.ensures.steps c.if-x-self.true

pub returns-then-x-self-clause-goes : goal.returns-then-x-self-clause-goes
returns-then-x-self-clause-goes c =
    let e = sym c.loop-x.invariant ∙ sampled_next _ _ _ _ c.in-Some.ensures.steps c.if-x-self.true in
    record { on = λ f. (tt, tt, omega (arith, ap length e)); keeps = tt; rests = λ f. tt }

pub loop-x-preserved : goal.loop-x-preserved
loop-x-preserved c = sym (sampled_past _ _ _ _ c.in-Some.ensures.steps c.if-x-self.false) ∙ c.loop-x.invariant
