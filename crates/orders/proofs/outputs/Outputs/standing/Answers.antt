-- `orders::outputs::Outputs::standing` meets its contract.
-- Assumes nothing.
use mathlib.Core.Path.{◌≡◌, sym, ◌∙◌}
use Prim.Native.Nat.{◌+◌, ◌-◌}
use native.Mathlib.Omega.{arith}
use lib.ListN.{get_or}
use Rattle.lists.proofs.Standing.{standing_stop, standing_go, standing_end}
use Rattle.orders.specs.Reservoirs.{outputs}
use Rattle.orders.proofs.ScanLaws.{output_at}
use Rattle.orders.proofs.CountsLaws.{counts_yes, counts_no}
use Rattle.orders.proofs.outputs.Outputs.standing.Goals as goal
use Rattle.orders.proofs.outputs.Outputs.standing.Goals.{After-at}

-- the output that a turn looks at
is : (c : After-at) → get_or (outputs c.args.self.key c.args.self.layer.number) (c.loop-p.p - 1) 0 ≡ c.at.result
is c = output_at _ _ _ (omega (arith, c.requires.fit)) ∙ sym c.at.ensures

pub returns-then-at-v : goal.returns-then-at-v
returns-then-at-v c =
    let e : c.loop-p.p - 1 + 1 ≡ c.loop-p.p = omega arith in
    rw e (sym (standing_stop _ _ _ _ (omega arith) (counts_yes _ _ (omega (arith, is (goal.at.returns-then-at-v c).After-at)))) ∙ c.loop-p.invariant.1)

pub loop-p-preserved : goal.loop-p-preserved
loop-p-preserved c =
    (omega arith, sym (standing_go _ _ _ _ (omega arith) (counts_no _ _ (omega (arith, is (goal.at.loop-p-preserved c).After-at)))) ∙ c.loop-p.invariant.1)

pub returns : goal.returns
returns c =
    let e : c.loop-p.p ≡ c.args.k = omega arith in
    sym e ∙ sym (standing_end _ _ _ _ (omega arith)) ∙ c.loop-p.invariant.1
