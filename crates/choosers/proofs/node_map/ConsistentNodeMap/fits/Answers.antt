-- `choosers::node_map::ConsistentNodeMap::fits` meets its contract.
-- Assumes nothing.
use mathlib.Core.Path.{sym, ◌∙◌}
use native.Mathlib.Omega.{arith}
use borrow.Author.Tests.{lt-leb}
use Rattle.choosers.proofs.SlotCallLaws.{fits_long, fits_high, fits_small}
use Rattle.choosers.proofs.node_map.ConsistentNodeMap.fits.Goals as goal
use Rattle.choosers.proofs.node_map.ConsistentNodeMap.fits.Goals.{then-c-table, else-c-table}

pub returns-then-self-le-SLOT_LIMIT : goal.returns-then-self-le-SLOT_LIMIT
returns-then-self-le-SLOT_LIMIT c =
    let h = c.if-self-le-SLOT_LIMIT.true in
    c.small.ensures ∙ sym (fits_small _ _ h.0 h.1)

pub returns-else-self-le-SLOT_LIMIT : goal.returns-else-self-le-SLOT_LIMIT
returns-else-self-le-SLOT_LIMIT c =
    elim c.if-c-table.branch [
      | then-c-table w ↦ w.t-5-is ∙ lt-leb _ _ (omega arith) ∙ sym (fits_high _ _ w.if-c-table.true (omega arith))
      | else-c-table w ↦ w.t-5-is ∙ lt-leb _ _ w.if-c-table.false ∙ sym (fits_long _ _ w.if-c-table.false)
    ]
