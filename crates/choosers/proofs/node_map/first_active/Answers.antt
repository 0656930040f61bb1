-- `choosers::node_map::first_active` meets its contract.
-- Assumes nothing.
use mathlib.Core.Path.{◌≡◌, refl, sym, ap, ◌∙◌}
use mathlib.Core.List.{◌++◌}
use Prim.Native.Nat.{ℕ, ◌+◌, ◌<◌}
use native.Mathlib.Omega.{arith}
use lib.ListN.{length, get_or, drop, length-append, length-drop}
use lib.Seq.{length-take-le}
use Rattle.choosers.specs.Choosers.{S, Q}
use Rattle.choosers.specs.Slots.{active}
use Rattle.choosers.specs.SlotCalls.{look_up}
use Rattle.choosers.proofs.OrderLaws.{Q_below}
use Rattle.choosers.proofs.TableLaws.{active_byte, reads_one}
use Rattle.choosers.proofs.LookLaws.{one_less, stands_front, stands_whole, look_first, look_next, look_hit, look_over}
use Rattle.choosers.proofs.node_map.first_active.Goals as goal
use Rattle.choosers.proofs.node_map.first_active.Goals.{After-eq, After-next_number-x}

-- whether the number is active: whether its byte is 1
test : (c : After-eq) → c.next_number-x.result < c.args.count → active c.args.table.now c.args.count c.next_number-x.result ≡ c.eq.result
test c h =
    active_byte _ _ _ h
    ∙ sym (c.eq.ensures ∙ reads_one c.get.result _ _ refl (c.get.ensures.lookup.4 (omega arith) 0))

pub loop-k-init : goal.loop-k-init
unfolding S
loop-k-init c = (refl, look_first _ _ _ _, (refl, λ i p. absurd (omega arith)))

pub next_number-x-requires-clause-stands : goal.next_number-x-requires-clause-stands
next_number-x-requires-clause-stands c = stands_front _ _ c.loop-k.k c.loop-k.scratch (omega arith) c.loop-k.invariant.2

-- the number that is looked at
number : (c : After-next_number-x) → c.next_number-x.result ≡ get_or (Q c.args.state c.args.count) c.loop-k.k 0
number c =
    c.next_number-x.ensures.number ∙ ap (λ (k : ℕ). get_or (Q c.args.state c.args.count) k 0) (one_less c.loop-k.k c.loop-k.scratch (omega arith))

low : (c : After-next_number-x) → c.next_number-x.result < c.args.count
low c = omega (arith, number c, Q_below c.args.state c.args.count c.loop-k.k (omega arith))

-- the scratch keeps its length
keeps : (c : After-next_number-x) → length (c.next_number-x.new.scratch ++ drop (c.loop-k.k + 1) c.loop-k.scratch) ≡ length c.args.scratch.now
keeps c =
    let k = c.loop-k.k in
    let l = c.loop-k.scratch in
    let new = c.next_number-x.new.scratch in
    omega (arith, c.loop-k.invariant.0, c.next_number-x.auto.scratch, length-append new (drop (k + 1) l), length-drop (k + 1) l, length-take-le (k + 1) l (omega arith))

pub overflow_cast-result : goal.overflow_cast-result
overflow_cast-result c = omega (arith, low (goal.at.overflow_cast-result c).After-next_number-x)

pub returns-then-eq : goal.returns-then-eq
unfolding look_up
returns-then-eq c =
    let x = (goal.at.returns-then-eq c).After-next_number-x in
    record {
      answer = look_hit _ _ _ _ _ (omega arith) (omega arith) _ (number x) (test (goal.at.returns-then-eq c).After-eq (low x) ∙ c.if-eq.true) c.loop-k.invariant.1;
      scratch = keeps x;
    }

pub loop-k-preserved : goal.loop-k-preserved
loop-k-preserved c =
    let v = c.loop-k.invariant in
    let k = c.loop-k.k in
    let l = c.loop-k.scratch in
    let new = c.next_number-x.new.scratch in
    let same = c.next_number-x.auto.scratch in
    let x = (goal.at.loop-k-preserved c).After-next_number-x in (
      keeps x,
      look_next _ _ _ _ _ (omega arith) (omega arith) _ (number x) (test (goal.at.loop-k-preserved c).After-eq (low x) ∙ c.if-eq.false) v.1,
      stands_whole _ _ k l (omega arith) new same c.next_number-x.ensures.stands,
    )

pub returns : goal.returns
unfolding look_up
returns c = record { answer = look_over _ _ _ _ c.loop-k.k (omega arith) c.loop-k.invariant.1; scratch = c.loop-k.invariant.0 }
