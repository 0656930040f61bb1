-- `lines::calls::open` meets its contract.
-- Assumes nothing.
use Rattle.std.proofs.lemmas.Result.{err_from_is_err_and}
use Rattle.lines.proofs.LineLaws.{open_made, open_refused}
use Rattle.lines.proofs.calls.open.Goals as goal

pub returns-in_err-opened : goal.returns-in_err-opened
returns-in_err-opened c = λ t ls ts.
    let p = err_from_is_err_and c.from_residual.result c.from_residual.ensures.1 in
    rw (p.1, p.2) (open_refused _ _ _ _ _ _ _ _ c.in_err-opened.ensures)

pub returns : goal.returns
returns c = λ t ls ts. open_made _ _ _ _ _ _ c.args.current.now _ c.in_ok-opened.ensures
