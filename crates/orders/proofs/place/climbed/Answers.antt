-- `orders::place::climbed` meets its contract.
-- Assumes nothing.
use mathlib.Core.Path.{◌≡◌, sym, ap, ◌∙◌}
use Prim.Native.Nat.{◌+◌, ◌-◌, ◌<◌}
use native.Mathlib.Numerals.{add-one}
use native.Mathlib.Omega.{arith}
use Rattle.orders.specs.Reservoirs.{L}
use Rattle.orders.specs.InnerPasses.{climb}
use Rattle.orders.proofs.ZeroLaws.{some_inputs, inputs_fit, climb_turn}
use Rattle.orders.proofs.place.climbed.Goals as goal
use Rattle.orders.proofs.place.climbed.Goals.{After-inputs_to_zero-t}

-- the inputs that a turn finds
found : (c : After-inputs_to_zero-t) → c.inputs_to_zero-t.result ≡ L c.args.key (c.loop-number.number + 1) (c.loop-number.t + 1)
found c =
    let e = c.new.ensures in
    rw (e.layer, e.key) at c.inputs_to_zero-t.ensures

some : (c : After-inputs_to_zero-t) → 0 < c.inputs_to_zero-t.result
some c =
    let e = ap (L c.args.key (c.loop-number.number + 1)) (add-one c.loop-number.t) in
    omega (arith, found c, e, some_inputs c.args.key (c.loop-number.number + 1) c.loop-number.t)

pub overflow_sub-t : goal.overflow_sub-t
overflow_sub-t c = some (goal.at.overflow_sub-t c).After-inputs_to_zero-t

pub loop-number-preserved : goal.loop-number-preserved
loop-number-preserved c =
    let l = c.loop-number in
    let s = (goal.at.loop-number-preserved c).After-inputs_to_zero-t in
    let m : c.args.top.number - l.number - 1 ≡ c.args.top.number - (l.number + 1) = omega arith in
    let t = climb_turn c.args.key l.number l.t (c.args.top.number - l.number) (omega arith) in (
      omega (arith, some s, found s, inputs_fit c.args.key (l.number + 1) (l.t + 1)),
      rw (found s, ← m) (sym t ∙ l.invariant.1),
    )

pub returns-clause-place : goal.returns-clause-place
unfolding climb
returns-clause-place c =
    let e : c.args.top.number - c.loop-number.number ≡ 0 = omega arith in
    rw e at c.loop-number.invariant.1
