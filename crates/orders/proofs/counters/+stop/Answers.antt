-- `orders::counters::stop` meets its contract.
-- Assumes nothing.
use mathlib.Core.Path.{◌∙◌}
use Rattle.orders.proofs.DescentLaws.{stop_spent, stop_here, stop_zero, stop_down}
use Rattle.orders.proofs.counters.+stop.Goals as goal

pub returns-then-size-x : goal.returns-then-size-x
returns-then-size-x t c = stop_spent _ _ _ _ _ c.counter_at-x.ensures c.size.ensures c.if-size-x.true

pub returns-then-quarter-y : goal.returns-then-quarter-y
returns-then-quarter-y t c =
    stop_here _ _ _ _ _ c.counter_at-x.ensures c.size.ensures _ _ c.if-size-x.false c.output-y.ensures c.quarter-quarter.ensures c.if-quarter-y.true

pub returns-then-j-eq0 : goal.returns-then-j-eq0
returns-then-j-eq0 t c =
    stop_zero _ _ _ _ _ c.counter_at-x.ensures c.size.ensures _ _ c.if-size-x.false c.output-y.ensures c.quarter-quarter.ensures c.if-quarter-y.false c.if-j-eq0.true

pub returns : goal.returns
returns t c =
    c.stop.ensures
    ∙ stop_down _ _ _ _ _ c.counter_at-x.ensures c.size.ensures _ _ c.if-size-x.false c.output-y.ensures c.quarter-quarter.ensures c.if-quarter-y.false c.if-j-eq0.false
