-- `choosers::node_map::ConsistentNodeMap::remove` meets its contract.
-- Assumes nothing.
use Rattle.std.proofs.lemmas.Result.{err_from_is_err_and}
use mathlib.Core.Path.{◌≡◌, refl, sym, ap, ◌∙◌}
use mathlib.Core.Bool.{true, not, not-not}
use native.Mathlib.Omega.{arith}
use Rattle.choosers.specs.Slots.{active}
use Rattle.choosers.proofs.TableLaws.{active→, reads_one, slot_active}
use Rattle.choosers.proofs.SlotCallLaws.{small_parts, remove_unfit, remove_none, remove_last, remove_other}
use Rattle.choosers.proofs.node_map.ConsistentNodeMap.remove.Goals as goal
use Rattle.choosers.proofs.node_map.ConsistentNodeMap.remove.Goals.{After-ne, Else-ne}

pub returns-in_err-slots : goal.returns-in_err-slots
returns-in_err-slots c =
    let e = err_from_is_err_and c.from_residual.result c.from_residual.ensures.1 in
    let u = c.in_err-slots.ensures in
    rw (e.1, e.2, u.misfit) (sym (remove_unfit _ _ _ (sym u.fits)))

-- whether the slot is active
test : (c : After-ne) → active c.args.table.now c.args.self.now.total c.args.slot ≡ not c.ne.result
test c =
    let u = c.in_ok-slots.ensures in
    let read = c.get.ensures.lookup.4 (omega arith) 0 in
    slot_active _ _ _ u.bytes (small_parts _ _ (sym u.fits)).0 c.args.slot ∙ sym (reads_one c.get.result _ _ refl read) ∙ sym (not-not _) ∙ sym (ap not c.ne.ensures)

stands : (c : Else-ne) → active c.args.table.now c.args.self.now.total c.args.slot ≡ true
stands c = test (goal.at.Else-ne c).After-ne ∙ ap not c.if-ne.false

pub returns-then-ne : goal.returns-then-ne
returns-then-ne c =
    let e = test (goal.at.returns-then-ne c).After-ne in
    sym (remove_none _ _ _ (sym c.in_ok-slots.ensures.fits) (e ∙ ap not c.if-ne.true))

pub overflow_add-slot : goal.overflow_add-slot
overflow_add-slot c =
    let e = stands (goal.at.overflow_add-slot c).Else-ne in
    omega (arith, (active→ _ _ _ e).0, (small_parts _ _ (sym c.in_ok-slots.ensures.fits)).1)

pub returns-then-slot-self : goal.returns-then-slot-self
returns-then-slot-self c =
    sym (remove_last _ _ _ (sym c.in_ok-slots.ensures.fits) (stands (goal.at.returns-then-slot-self c).Else-ne) c.if-slot-self.true)

pub returns-else-slot-self : goal.returns-else-slot-self
returns-else-slot-self c =
    sym (remove_other _ _ _ (sym c.in_ok-slots.ensures.fits) (stands (goal.at.returns-else-slot-self c).Else-ne) c.if-slot-self.false)
