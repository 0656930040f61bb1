-- `rounds::round::withdrawn` meets its contract.
-- Assumes nothing.
use Rattle.rounds.proofs.RoundCallLaws.{list_tested, withdraw_refused, withdraw_code}
use Rattle.rounds.proofs.round.withdrawn.Goals as goal

pub returns-then-not-fits : goal.returns-then-not-fits
returns-then-not-fits c =
    let r = c.args.r in
    withdraw_refused r _ _ _ (list_tested r _ _ _ _ c.reservoir_of.ensures c.fits.ensures c.if-not-fits.true)

pub returns : goal.returns
returns c =
    let r = c.args.r in
    let ok = list_tested r _ _ _ _ c.reservoir_of.ensures c.fits.ensures c.if-not-fits.false in
    withdraw_code r _ _ _ ok _ _ _ _ _ c.map_of-m.ensures c.remove-said.ensures c.with_map.ensures
