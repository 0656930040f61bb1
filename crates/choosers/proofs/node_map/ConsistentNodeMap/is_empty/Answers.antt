-- `choosers::node_map::ConsistentNodeMap::is_empty` meets its contract.
-- Assumes nothing.
use Rattle.std.proofs.lemmas.Result.{err_from_is_err_and}
use mathlib.Core.Path.{sym, ap, ◌∙◌}
use mathlib.Core.Bool.{Bool, not, not-not}
use Rattle.answers.specs.Answers.{result}
use Rattle.choosers.proofs.TableLaws.{some_active}
use Rattle.choosers.proofs.SlotCallLaws.{small_parts, query_unfit, query_fit}
use Rattle.choosers.proofs.node_map.ConsistentNodeMap.is_empty.Goals as goal

pub returns-in_err-slots : goal.returns-in_err-slots
returns-in_err-slots c =
    let e = err_from_is_err_and c.from_residual.result c.from_residual.ensures.1 in
    let u = c.in_err-slots.ensures in
    rw (e.1, e.2, u.misfit) (sym (query_unfit _ _ _ (sym u.fits)))

pub returns : goal.returns
returns c =
    let u = c.in_ok-slots.ensures in
    ap (λ (b : Bool). result (not b)) (some_active _ _ _ u.bytes (small_parts _ _ (sym u.fits)).0 _ c.any.ensures)
    ∙ ap result (not-not _) ∙ sym (query_fit _ _ _ (sym u.fits))
