-- `lines::calls::plan` meets its contract.
-- Assumes nothing.
use Rattle.std.proofs.lemmas.Result.{err_from_is_err_and}
use Rattle.lines.proofs.LineLaws.{none_had, plan_none, plan_refused, plan_done}
use Rattle.lines.proofs.calls.plan.Goals as goal

pub returns-in_err-round : goal.returns-in_err-round
returns-in_err-round c =
    let p = err_from_is_err_and c.from_residual.result c.from_residual.ensures.1 in
    let n = none_had _ _ _ c.in_err-round.ensures.value in
    rw (p.1, p.2, n.1) (plan_none _ _ _ _ _ _ n.0)

pub returns-in_err-plan : goal.returns-in_err-plan
returns-in_err-plan c =
    let p = err_from_is_err_and c.from_residual-in_err-plan.result c.from_residual-in_err-plan.ensures.1 in
    rw (p.1, p.2) (plan_refused _ _ _ _ _ _ _ c.in_ok-round.ensures.ok_part _ _ _ c.in_err-plan.ensures.answer)

pub returns : goal.returns
returns c = plan_done _ _ _ _ _ _ _ c.in_ok-round.ensures.ok_part _ _ c.in_ok-plan.ensures.answer
