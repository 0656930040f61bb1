-- `rounds::round::open` meets its contract.
-- Assumes nothing.
use Rattle.std.proofs.lemmas.Result.{err_from_is_err_and}
use Rattle.rounds.proofs.RoundCallLaws.{open_made, open_refused}
use Rattle.rounds.proofs.round.open.Goals as goal

pub returns-in_err-a : goal.returns-in_err-a
returns-in_err-a c =
    let p = err_from_is_err_and c.from_residual.result c.from_residual.ensures.1 in
    rw (p.1, p.2) (open_refused _ _ _ _ _ _ c.new.ensures _ c.in_err-a.was)

pub returns : goal.returns
returns c = open_made _ _ _ _ _ _ c.new.ensures _ _ c.in_ok-a.was c.begin.ensures
