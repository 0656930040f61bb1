-- `rounds::round::fits` meets its contract.
-- Assumes nothing.
use Rattle.std.proofs.Common.{refl, sym, ◌∙◌}
use Rattle.rounds.proofs.RoundCallLaws.{list_tested, table_tested, list_unfit, list_fit}
use Rattle.rounds.proofs.round.fits.Goals as goal

pub returns-else-fits : goal.returns-else-fits
returns-else-fits c =
    let r = c.args.r in
    c.if-fits.false ∙ sym (list_unfit r _ _ (list_tested r _ _ _ _ c.reservoir_of.ensures c.fits.ensures c.if-fits.false))

pub returns-then-fits : goal.returns-then-fits
returns-then-fits c =
    let r = c.args.r in
    let ok = list_tested r _ _ _ _ c.reservoir_of.ensures c.fits.ensures c.if-fits.true in
    sym (list_fit r _ _ ok ∙ table_tested r _ _ _ _ c.map_of.ensures c.fits-then-fits.ensures refl)
