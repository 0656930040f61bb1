-- `rounds::round::joined` meets its contract.
-- Assumes nothing.
use Rattle.rounds.proofs.RoundCallLaws.{list_tested, join_refused, join_code}
use Rattle.rounds.proofs.round.joined.Goals as goal

pub returns-then-not-fits : goal.returns-then-not-fits
returns-then-not-fits c =
    let r = c.args.r in
    join_refused r _ _ (list_tested r _ _ _ _ c.reservoir_of.ensures c.fits.ensures c.if-not-fits.true)

pub returns : goal.returns
returns c =
    let r = c.args.r in
    let ok = list_tested r _ _ _ _ c.reservoir_of.ensures c.fits.ensures c.if-not-fits.false in
    join_code r _ _ ok _ _ _ _ _ c.map_of-m.ensures c.add-said.ensures c.with_map.ensures
