-- `choosers::lookups::next_number` meets its contract.
-- Assumes nothing.
use mathlib.Core.Path.{◌≡◌, sym, ◌∙◌}
use Prim.Native.Nat.{◌+◌, ◌-◌, ◌<◌}
use native.Mathlib.Omega.{arith}
use lib.ListN.{length}
use Rattle.choosers.specs.InnerHolding.{low, lows}
use Rattle.choosers.proofs.HoldingLaws.{sample_at}
use Rattle.choosers.proofs.LookupLaws.{rises_S, below_S}
use Rattle.choosers.proofs.LookLaws.{Grown, grow_next}
use Rattle.choosers.proofs.lookups.next_number.Goals as goal
use Rattle.choosers.proofs.lookups.next_number.Goals.{After-grow-i}

pub grow-i-requires-clause-rises : goal.grow-i-requires-clause-rises
grow-i-requires-clause-rises c = rises_S _ _ _ c.args.scratch.now (omega (arith, c.requires.few)) c.requires.stands.0

pub grow-i-requires-clause-below : goal.grow-i-requires-clause-below
grow-i-requires-clause-below c =
    λ a p. below_S _ _ _ c.args.scratch.now (omega (arith, c.requires.few)) c.requires.stands.0 a (omega arith)

grown : (c : After-grow-i) → Grown c.args.state (length c.args.scratch.now - 1) c.args.n (lows c.grow-i.new.list) c.grow-i.result
grown c =
    let r = c.requires in
    grow_next _ _ _ (lows c.args.scratch.now) (omega (arith, r.some, r.few)) r.stands.0 (lows c.grow-i.new.list) _ c.grow-i.ensures.grown

inside : (c : After-grow-i) → c.grow-i.result < length c.grow-i.new.list
inside c = omega (arith, (grown c).enters_in, c.grow-i.auto.list, c.requires.some)

pub offset_bounds-scratch-i : goal.offset_bounds-scratch-i
offset_bounds-scratch-i c = omega (arith, inside (goal.at.offset_bounds-scratch-i c).After-grow-i)

pub bounds-scratch-i : goal.bounds-scratch-i
bounds-scratch-i c = inside (goal.at.bounds-scratch-i c).After-grow-i

pub returns : goal.returns
returns c =
    let a = (goal.at.returns c).After-grow-i in
    let new = c.grow-i.new.list in
    let m : length c.args.scratch.now - 1 + 1 ≡ length new = omega (arith, c.grow-i.auto.list, c.requires.some) in
    record {
      number = c.sample.ensures ∙ sym (sample_at low new c.grow-i.result (inside a)) ∙ (grown a).number;
      stands = (rw m at (grown a).samples, c.grow-i.ensures.kept);
    }
