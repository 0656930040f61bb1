-- `lines::calls::admit` meets its contract.
-- Assumes nothing.
use Rattle.std.proofs.lemmas.Result.{err_from_is_err_and}
use Rattle.lines.proofs.LineLaws.{none_had, lent_is, admit_none, admit_on, exchange_answer}
use Rattle.lines.proofs.calls.admit.Goals as goal

pub returns-in_err-round : goal.returns-in_err-round
returns-in_err-round c = λ ls ts.
    let p = err_from_is_err_and c.from_residual.result c.from_residual.ensures.1 in
    let n = none_had _ _ _ c.in_err-round.ensures.value in
    rw (p.1, p.2, n.1) (admit_none _ _ _ (lent_is _ _ _ c.as_mut.ensures.value n.0))

pub returns-in_err-exchange : goal.returns-in_err-exchange
returns-in_err-exchange c = λ ls ts.
    let p = err_from_is_err_and c.from_residual-in_err-exchange.result c.from_residual-in_err-exchange.ensures.1 in
    rw (p.1, p.2) (admit_on _ _ _ _ _ (lent_is _ _ _ c.as_mut.ensures.value c.in_ok-round.ensures.ok_part) _ _ c.in_err-exchange.ensures)

pub returns : goal.returns
returns c = λ ls ts. rw (exchange_answer c.in_ok-exchange.exchange) (admit_on _ _ _ _ _ (lent_is _ _ _ c.as_mut.ensures.value c.in_ok-round.ensures.ok_part) _ _ c.in_ok-exchange.ensures)
