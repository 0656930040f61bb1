-- `choosers::samples::choose` meets its contract.
-- Assumes nothing.
use mathlib.Core.Path.{◌≡◌, ap, ◌∙◌}
use Prim.Native.Nat.{ℕ, suc, ◌-◌, ◌+◌}
use native.Mathlib.Omega.{arith}
use native.Mathlib.Numerals.{add-one}
use lib.ListN.{length, take}
use lib.Seq.{length-take-le}
use Rattle.choosers.specs.Choosers.{S}
use Rattle.choosers.proofs.ChooseLaws.{choosing_done, choosing_at, choosing_next}
use Rattle.choosers.proofs.samples.choose.Goals as goal
use Rattle.choosers.proofs.samples.choose.Goals.{In-loop-i}

-- the places that a turn looks at
turned : (c : In-loop-i) → length (take (c.loop-i.i - 1 + 1) c.loop-i.list) ≡ suc (c.loop-i.i - 1)
turned c = length-take-le (c.loop-i.i - 1 + 1) c.loop-i.list (omega arith) ∙ add-one (c.loop-i.i - 1)

pub loop-i-preserved : goal.loop-i-preserved
loop-i-preserved c =
    let l = c.loop-i in
    let r = c.refresh-last in
    let e = turned (goal.at.loop-i-preserved c).In-loop-i in
    let owns = rw e at r.ensures.1 in
    let top = rw e at r.ensures.0 in
    rw (add-one (l.i - 1))
    (choosing_next _ _ _ _ _ _ (choosing_at _ _ _ _ _ _ (omega arith) l.invariant) r.new.list (r.auto.list ∙ e) owns r.result top)

pub returns : goal.returns
returns c =
    choosing_done _ _ _ _ _ _ (omega arith) c.loop-i.invariant ∙ ap (λ (k : ℕ). S c.args.state k c.args.n) c.fill.ensures.len
