-- `choosers::node_map::ConsistentNodeMap::slots` meets its contract.
-- Assumes nothing.
use mathlib.Core.Path.{sym, ◌∙◌}
use lib.Seq.{length-take-le}
use Rattle.choosers.proofs.SlotCallLaws.{fits_parts}
use Rattle.choosers.proofs.node_map.ConsistentNodeMap.slots.Goals as goal

pub slice_bounds-result-end : goal.slice_bounds-result-end
slice_bounds-result-end c =
    sym (length-take-le _ _ (fits_parts _ _ (sym c.fits.ensures ∙ c.if-not-fits.false)).count_le)
