-- `rounds::round::is_idle` meets its contract.
-- Assumes nothing.
use Rattle.rounds.proofs.RoundCallLaws.{list_tested, idle_refused, idle_code}
use Rattle.rounds.proofs.round.is_idle.Goals as goal

pub returns-then-not-fits : goal.returns-then-not-fits
returns-then-not-fits c =
    let r = c.args.r in
    idle_refused r _ _ (list_tested r _ _ _ _ c.reservoir_of.ensures c.fits.ensures c.if-not-fits.true)

pub returns : goal.returns
returns c =
    let r = c.args.r in
    let ok = list_tested r _ _ _ _ c.reservoir_of.ensures c.fits.ensures c.if-not-fits.false in
    idle_code r _ _ ok _ c.is_empty.result c.map_of.ensures c.is_empty.ensures
