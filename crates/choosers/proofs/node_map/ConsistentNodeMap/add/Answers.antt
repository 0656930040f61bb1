-- `choosers::node_map::ConsistentNodeMap::add` meets its contract.
-- Assumes nothing.
use Rattle.std.proofs.lemmas.Result.{err_from_is_err_and}
use mathlib.Core.Path.{◌≡◌, sym, ap}
use mathlib.Core.Logic.{⊎_elim}
use mathlib.Core.Bool.{true}
use Prim.Native.Nat.{◌<◌}
use native.Mathlib.Omega.{arith}
use lib.ListN.{length}
use lib.Seq.{length-take-le}
use Rattle.choosers.specs.Slots.{vacant}
use Rattle.choosers.specs.SlotCalls.{fitting}
use Rattle.choosers.proofs.TableLaws.{vacant_some, vacant_none}
use Rattle.choosers.proofs.SlotCallLaws.{fits_parts, add_unfit, add_vacant, add_full, add_limit, add_new}
use Rattle.choosers.proofs.node_map.ConsistentNodeMap.add.Goals as goal
use Rattle.choosers.proofs.node_map.ConsistentNodeMap.add.Goals.{In-Some, In_default}

pub returns-in_err-slots : goal.returns-in_err-slots
returns-in_err-slots c =
    let e = err_from_is_err_and c.from_residual.result c.from_residual.ensures.1 in
    let u = c.in_err-slots.ensures in
    rw (e.1, e.2, u.misfit) (sym (add_unfit _ _ (sym u.fits)))

-- where the lowest deleted slot is found
module _ (c : In-Some) where
  fit : fitting c.args.self.now c.args.table.now ≡ true
  fit = sym c.in_ok-slots.ensures.fits

  low : c.in-Some.x < c.args.self.now.total
  low =
      omega (arith, c.in-Some.ensures.some.0, ap length c.in_ok-slots.ensures.bytes, length-take-le _ _ (fits_parts _ _ fit).count_le)

  is : c.in-Some.x ≡ vacant c.args.table.now c.args.self.now.total
  is =
      let s = c.in-Some.ensures.some in
      vacant_some _ _ _ c.in_ok-slots.ensures.bytes (fits_parts _ _ fit).count_le _ s.0 s.1 s.2

-- where there is none
none : (c : In_default) → c.args.self.now.total ≡ vacant c.args.table.now c.args.self.now.total
none c = vacant_none _ _ _ c.in_ok-slots.ensures.bytes (fits_parts _ _ (sym c.in_ok-slots.ensures.fits)).count_le c.in_default.ensures.none

pub overflow_cast-result : goal.overflow_cast-result
overflow_cast-result c = omega (arith, low c, (fits_parts _ _ (fit c)).count_low)

pub returns-in-Some : goal.returns-in-Some
returns-in-Some c = sym (add_vacant _ _ (fit c) _ (is c) (low c))

pub returns-then-end-table : goal.returns-then-end-table
returns-then-end-table c =
    let f = sym c.in_ok-slots.ensures.fits in
    let e = none (goal.at.returns-then-end-table c).In_default in
    sym (⊎_elim
    (λ m. add_full _ _ f _ e (omega arith) m)
    (λ m. add_limit _ _ f _ e (omega arith) m.0 m.1)
    c.then-end-table.either)

pub bounds-table-end : goal.bounds-table-end
bounds-table-end c =
    omega (arith, (fits_parts _ _ (sym c.in_ok-slots.ensures.fits)).count_le)

pub overflow_add-self : goal.overflow_add-self
overflow_add-self c =
    omega (arith, (fits_parts _ _ (sym c.in_ok-slots.ensures.fits)).count_low)

pub returns : goal.returns
returns c =
    sym (add_new _ _ (sym c.in_ok-slots.ensures.fits) _ (none (goal.at.returns c).In_default) (omega arith) c.if-end-table.false c.if-c-eq-SLOT_LIMIT.false)
