-- `choosers::node_map::ConsistentNodeMap::get` meets its contract.
-- Assumes nothing.
use Rattle.std.proofs.lemmas.Result.{err_from_is_err_and}
use mathlib.Core.Path.{◌≡◌, refl, sym, ap, ◌∙◌}
use mathlib.Core.Bool.{true, not}
use Prim.Native.Nat.{◌≤◌, min}
use native.Mathlib.Omega.{arith}
use lib.Dec.{eqb}
use lib.ListN.{length}
use Rattle.answers.specs.Refusals.{answer_of}
use Rattle.choosers.specs.Slots.{actives}
use Rattle.choosers.specs.SlotCalls.{slot_limit, fitting}
use Rattle.choosers.proofs.TableLaws.{some_active}
use Rattle.choosers.proofs.SlotCallLaws.{fits_parts}
use Rattle.choosers.proofs.GetLaws.{get_unfit, get_short, get_none, get_looked, scratch_looked}
use Rattle.choosers.proofs.node_map.ConsistentNodeMap.get.Goals as goal
use Rattle.choosers.proofs.node_map.ConsistentNodeMap.get.Goals.{After-any}

module _ (c : After-any) where
  fit : fitting c.args.self c.args.table.now ≡ true
  fit = sym c.in_ok-slots.ensures.fits

  -- the scratch is long enough
  enough : min (length c.args.table.now) slot_limit ≤ length c.args.scratch.now
  enough = omega (arith, c.scratch_places.ensures)

  -- whether one is active
  one : c.any.result ≡ not (eqb (length (actives c.args.table.now c.args.self.total)) 0)
  one = some_active _ _ _ c.in_ok-slots.ensures.bytes (fits_parts _ _ fit).count_le _ c.any.ensures

pub returns-in_err-slots : goal.returns-in_err-slots
returns-in_err-slots c =
    let e = err_from_is_err_and c.from_residual.result c.from_residual.ensures.1 in
    let u = c.in_err-slots.ensures in
    rw (e.1, e.2, u.misfit) (record { answer = sym (get_unfit _ _ _ _ (sym u.fits)); scratch_after = refl })

pub returns-then-scratch-scratch_places : goal.returns-then-scratch-scratch_places
returns-then-scratch-scratch_places c = record {
  answer = sym (get_short _ _ _ _ (sym c.in_ok-slots.ensures.fits) (omega (arith, c.scratch_places.ensures)));
  scratch_after = refl;
}

pub returns-then-not-any : goal.returns-then-not-any
returns-then-not-any c =
    let a = (goal.at.returns-then-not-any c).After-any in
    record {
      answer = sym (get_none _ _ _ _ (fit a) (enough a) (sym c.if-not-any.true ∙ one a));
      scratch_after = refl;
    }

pub returns : goal.returns
returns c =
    let a = (goal.at.returns c).After-any in
    record {
      answer = ap answer_of c.ok_or.ensures.value ∙ get_looked _ _ _ _ (fit a) (enough a) _ c.first_active.ensures.answer;
      -- one is active, so it is found
      scratch_after = scratch_looked _ _ _ _ (fit a) (enough a) (sym c.if-not-any.false ∙ one a) _ c.first_active.ensures.answer _ c.ok_or.ensures.value _ _ c.first_active.ensures.scratch;
    }
