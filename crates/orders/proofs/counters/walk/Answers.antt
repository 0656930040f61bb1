-- `orders::counters::walk` meets its contract.
-- Assumes nothing.
use mathlib.Core.Path.{sym, ap, ◌∙◌}
use Prim.Native.Nat.{ℕ, ◌-◌}
use Rattle.orders.specs.InnerCounters.{seek, walk_of}
use Rattle.orders.proofs.NextLaws.{seek_hit, seek_miss}
use Rattle.orders.proofs.counters.walk.Goals as goal

pub loop-x-init : goal.loop-x-init
unfolding walk_of
loop-x-init c =
    let a = c.args in
    ap (λ (s : ℕ). seek a.top.now.key a.top.now.layer.number a.n a.from (s - a.from)) c.size-size.ensures

pub returns-then-y-n : goal.returns-then-y-n
returns-then-y-n c =
    let l = c.loop-x in
    sym (seek_hit _ _ _ _ _ _ c.loop-x-test.true c.at_by_call-y.ensures c.if-y-n.true) ∙ l.invariant

pub loop-x-preserved : goal.loop-x-preserved
loop-x-preserved c =
    let l = c.loop-x in
    sym (seek_miss _ _ _ _ _ _ c.loop-x-test.true c.at_by_call-y.ensures c.if-y-n.false) ∙ l.invariant
