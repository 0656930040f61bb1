-- `lines::calls::withdraw` meets its contract.
-- Assumes nothing.
use Rattle.std.proofs.lemmas.Result.{err_from_is_err_and}
use Rattle.lines.proofs.LineLaws.{none_had, lent_is, withdraw_none, withdraw_on}
use Rattle.lines.proofs.calls.withdraw.Goals as goal

pub returns-in_err-round : goal.returns-in_err-round
returns-in_err-round c = λ ls ts.
    let p = err_from_is_err_and c.from_residual.result c.from_residual.ensures.1 in
    let n = none_had _ _ _ c.in_err-round.ensures.value in
    rw (p.1, p.2, n.1) (withdraw_none _ _ _ (lent_is _ _ _ c.as_mut.ensures.value n.0) _)

pub returns-in_err-withdraw : goal.returns-in_err-withdraw
returns-in_err-withdraw c = λ ls ts.
    let p = err_from_is_err_and c.from_residual-in_err-withdraw.result c.from_residual-in_err-withdraw.ensures.1 in
    rw (p.1, p.2) (withdraw_on _ _ _ _ _ (lent_is _ _ _ c.as_mut.ensures.value c.in_ok-round.ensures.ok_part) _ _ _ c.in_err-withdraw.ensures)

pub returns : goal.returns
returns c = λ ls ts. withdraw_on _ _ _ _ _ (lent_is _ _ _ c.as_mut.ensures.value c.in_ok-round.ensures.ok_part) _ _ _ c.in_ok-withdraw.ensures
