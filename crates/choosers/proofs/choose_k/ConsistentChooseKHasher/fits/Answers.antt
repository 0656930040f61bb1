-- `choosers::choose_k::ConsistentChooseKHasher::fits` meets its contract.
-- Assumes nothing.
use mathlib.Core.Path.{sym, ◌∙◌}
use borrow.Author.Tests.{lt-leb}
use Rattle.choosers.proofs.CheckLaws.{fits_rising, fits_short}
use Rattle.choosers.proofs.choose_k.ConsistentChooseKHasher.fits.Goals as goal

pub returns-then-self-list : goal.returns-then-self-list
returns-then-self-list c = c.rising.ensures ∙ sym (fits_rising _ _ c.if-self-list.true)

pub returns-else-self-list : goal.returns-else-self-list
returns-else-self-list c = lt-leb _ _ c.if-self-list.false ∙ sym (fits_short _ _ c.if-self-list.false)
