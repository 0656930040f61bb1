-- `orders::counters::within_sizes` meets its contract.
-- Assumes nothing.
use mathlib.Core.Path.{◌∙◌}
use native.Mathlib.Omega.{arith}
use Rattle.orders.proofs.CounterLaws.{from_start, from_turn, from_out, from_end}
use Rattle.orders.proofs.counters.within_sizes.Goals as goal

pub loop-number-init : goal.loop-number-init
loop-number-init c = from_start c.args.cs.now

pub returns-then-size-counter_at : goal.returns-then-size-counter_at
returns-then-size-counter_at c =
    let l = c.loop-number in
    from_out c.args.cs.now l.number c.loop-number-test.true (omega (arith, c.if-size-counter_at.true, c.size.ensures, c.counter_at.ensures)) ∙ l.invariant

pub loop-number-preserved : goal.loop-number-preserved
loop-number-preserved c =
    let l = c.loop-number in
    from_turn c.args.cs.now l.number c.loop-number-test.true (omega (arith, c.if-size-counter_at.false, c.size.ensures, c.counter_at.ensures)) ∙ l.invariant

pub returns : goal.returns
returns c = from_end c.args.cs.now c.loop-number.number c.loop-number-test.false ∙ c.loop-number.invariant
