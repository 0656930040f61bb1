-- `choosers::node_map::ConsistentNodeMap::is_active` meets its contract.
-- Assumes nothing.
use Rattle.std.proofs.lemmas.Result.{err_from_is_err_and}
use mathlib.Core.Path.{◌≡◌, refl, sym, ap, ◌∙◌}
use native.Mathlib.Omega.{arith}
use Rattle.answers.specs.Answers.{result}
use Rattle.choosers.specs.Slots.{active}
use Rattle.choosers.proofs.TableLaws.{reads_one, slot_active}
use Rattle.choosers.proofs.SlotCallLaws.{small_parts, query_unfit, query_fit}
use Rattle.choosers.proofs.node_map.ConsistentNodeMap.is_active.Goals as goal

pub returns-in_err-slots : goal.returns-in_err-slots
returns-in_err-slots c =
    let e = err_from_is_err_and c.from_residual.result c.from_residual.ensures.1 in
    let u = c.in_err-slots.ensures in
    rw (e.1, e.2, u.misfit) (sym (query_unfit _ _ _ (sym u.fits)))

pub returns : goal.returns
returns c =
    let u = c.in_ok-slots.ensures in
    let read = c.get.ensures.lookup.4 (omega arith) 0 in
    let one : c.eq.result ≡ active c.args.table.now c.args.self.total c.args.slot
    = c.eq.ensures ∙ reads_one c.get.result _ _ refl read ∙ sym (slot_active _ _ _ u.bytes (small_parts _ _ (sym u.fits)).0 c.args.slot) in
    ap result one ∙ sym (query_fit _ _ _ (sym u.fits))
