-- `lines::calls::join` meets its contract.
-- Assumes nothing.
use Rattle.std.proofs.lemmas.Result.{err_from_is_err_and}
use Rattle.lines.proofs.LineLaws.{none_had, lent_is, join_none, join_on}
use Rattle.lines.proofs.calls.join.Goals as goal

pub returns-in_err-round : goal.returns-in_err-round
returns-in_err-round c = λ ls ts.
    let p = err_from_is_err_and c.from_residual.result c.from_residual.ensures.1 in
    let n = none_had _ _ _ c.in_err-round.ensures.value in
    rw (p.1, p.2, n.1) (join_none _ _ _ (lent_is _ _ _ c.as_mut.ensures.value n.0))

pub returns-in_err-slot : goal.returns-in_err-slot
returns-in_err-slot c = λ ls ts.
    let p = err_from_is_err_and c.from_residual-in_err-slot.result c.from_residual-in_err-slot.ensures.1 in
    rw (p.1, p.2) (join_on _ _ _ _ _ (lent_is _ _ _ c.as_mut.ensures.value c.in_ok-round.ensures.ok_part) _ _ c.in_err-slot.ensures)

pub returns : goal.returns
returns c = λ ls ts. join_on _ _ _ _ _ (lent_is _ _ _ c.as_mut.ensures.value c.in_ok-round.ensures.ok_part) _ _ c.in_ok-slot.ensures
