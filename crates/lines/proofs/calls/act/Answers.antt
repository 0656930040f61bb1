-- `lines::calls::act` meets its contract.
-- Assumes nothing.
use Rattle.std.proofs.lemmas.Result.{err_from_is_err_and}
use Rattle.lines.proofs.LineLaws.{respond_misfit, respond_open, respond_admit, respond_join, respond_withdraw, respond_plan}
use Rattle.lines.proofs.calls.act.Goals as goal

pub returns-in_err-key : goal.returns-in_err-key
returns-in_err-key c =
    let p = err_from_is_err_and c.from_residual.result c.from_residual.ensures.1 in
    rw (p.1, p.2) (respond_misfit _ _ _ c.in_err-key.ensures)

pub returns-in-Open : goal.returns-in-Open
returns-in-Open c = respond_open _ _ _ c.in_ok-key.ensures _ _ _ _ _ c.in-Open.is (c.open.ensures _ _ _)

pub returns-in-Admit : goal.returns-in-Admit
returns-in-Admit c = respond_admit _ _ _ c.in_ok-key.ensures _ _ c.in-Admit.is (c.admit.ensures _ _)

pub returns-in-Join : goal.returns-in-Join
returns-in-Join c = respond_join _ _ _ c.in_ok-key.ensures _ _ c.in-Join.is (c.join.ensures _ _)

pub returns-in-Withdraw : goal.returns-in-Withdraw
returns-in-Withdraw c = respond_withdraw _ _ _ c.in_ok-key.ensures _ _ _ c.in-Withdraw.is (c.withdraw.ensures _ _)

pub returns-in-Plan : goal.returns-in-Plan
returns-in-Plan c = respond_plan _ _ _ c.in_ok-key.ensures c.in-Plan.is _ c.plan.ensures
