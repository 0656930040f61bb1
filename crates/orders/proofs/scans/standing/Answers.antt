-- `orders::scans::standing` meets its contract.
-- Assumes nothing.
use mathlib.Core.Path.{◌≡◌, sym, ◌∙◌}
use Prim.Native.Nat.{◌+◌, ◌-◌}
use native.Mathlib.Omega.{arith}
use Rattle.lists.proofs.Standing.{standing_stop, standing_go, standing_end}
use Rattle.orders.proofs.CountsLaws.{counts_yes, counts_no}
use Rattle.orders.proofs.scans.standing.Goals as goal

pub returns-then-list-p : goal.returns-then-list-p
returns-then-list-p c =
    let e : c.loop-p.p - 1 + 1 ≡ c.loop-p.p = omega arith in
    rw e (sym (standing_stop _ _ _ _ (omega arith) (counts_yes _ _ (omega arith))) ∙ c.loop-p.invariant.1)

pub loop-p-preserved : goal.loop-p-preserved
loop-p-preserved c =
    (omega arith, sym (standing_go _ _ _ _ (omega arith) (counts_no _ _ (omega arith))) ∙ c.loop-p.invariant.1)

pub returns : goal.returns
returns c =
    let e : c.loop-p.p ≡ c.args.k = omega arith in
    sym e ∙ sym (standing_end _ _ _ _ (omega arith)) ∙ c.loop-p.invariant.1
