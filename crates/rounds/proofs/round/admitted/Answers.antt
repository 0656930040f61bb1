-- `rounds::round::admitted` meets its contract.
-- Assumes nothing.
use Rattle.rounds.proofs.RoundCallLaws.{table_tested, admit_refused, admit_code}
use Rattle.rounds.proofs.round.admitted.Goals as goal

pub returns-then-not-fits : goal.returns-then-not-fits
returns-then-not-fits c =
    let r = c.args.r in
    admit_refused r _ _ (table_tested r _ _ _ _ c.map_of.ensures c.fits.ensures c.if-not-fits.true)

pub returns : goal.returns
returns c =
    let r = c.args.r in
    let ok = table_tested r _ _ _ _ c.map_of.ensures c.fits.ensures c.if-not-fits.false in
    admit_code r _ _ ok _ _ _ _ _ c.reservoir_of-a.ensures c.next-said.ensures c.with_reservoir.ensures
