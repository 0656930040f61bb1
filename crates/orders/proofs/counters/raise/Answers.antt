-- `orders::counters::raise` meets its contract.
-- Assumes nothing.
use mathlib.Core.Path.{◌≡◌, sym, ap, ◌∙◌}
use mathlib.Core.List.{List}
use Prim.Native.Nat.{◌+◌, ℕ, ◌-◌}
use native.Mathlib.Omega.{arith}
use lib.ListN.{set}
use Rattle.orders.specs.Orders.{counted}
use Rattle.orders.specs.InnerCounters.{raises}
use Rattle.orders.proofs.CounterLaws.{small_turn, raise_start, raise_turn, raise_end}
use Rattle.orders.proofs.counters.raise.Goals as goal

pub loop-number-preserved : goal.loop-number-preserved
unfolding counted
loop-number-preserved c =
    let l = c.loop-number in
    let e : c.set_counter-in-loop-number.new.cs ≡ counted l.number l.cs =
    c.set_counter-in-loop-number.ensures ∙ ap (λ (x : ℕ). set l.cs l.number (x + 1)) c.counter_at-higher.ensures in
    (small_turn l.cs _ l.number _ l.invariant.0 e, ap (λ (ds : List ℕ). raises ds (l.number + 1) (c.args.top.number - (l.number + 1))) e ∙ sym (raise_turn l.cs l.number _ (omega arith)) ∙ l.invariant.1)

pub returns : goal.returns
returns c =
    let l = c.loop-number in
    let a = c.args in
    sym (raise_end l.cs l.number a.top.number (omega arith))
    ∙ l.invariant.1
    ∙ ap (λ (ds : List ℕ). raises ds a.low.number (a.top.number - a.low.number)) c.set_counter.ensures
    ∙ raise_start a.cs.now a.low.number a.top.number a.x (omega arith)
