-- `exports::chooser::perillajamb_chooser_fits` meets its contract.
-- Assumes nothing.
use Rattle.std.proofs.Common.{◌∙◌, ap, rules}
use Rattle.exports.specs.Coded.{truth}
use Rattle.exports.specs.Chooser.{chooser_layout, fits_crossed}
use Rattle.exports.proofs.CrossLaws.{fits_few, fits_is}
use Rattle.exports.proofs.chooser.perillajamb_chooser_fits.Goals as goal

pub returns-then-words-lt-WORDS : goal.returns-then-words-lt-WORDS
unfolding fits_crossed
returns-then-words-lt-WORDS c = fits_few chooser_layout c.args.words.now c.if-words-lt-WORDS.true _ _ c.refused.ensures

pub returns : goal.returns
unfolding fits_crossed
returns c =
    fits_is chooser_layout c.args.words.now (search rules) _ _ (c.yes.ensures ∙ ap truth (rw c.loaded.ensures at c.fits.ensures))
