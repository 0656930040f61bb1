-- `orders::consistent_permutation::ConsistentPermutation::first` meets its contract.
-- Assumes nothing.
use mathlib.Core.Path.{◌≡◌, sym, ap, ◌∙◌}
use mathlib.Core.List.{List}
use mathlib.Core.Option.{none, some}
use Prim.Native.Nat.{ℕ, ◌-◌}
use native.Mathlib.Omega.{arith}
use borrow.Author.Rules.{rules}
use lib.ListN.{length, set}
use Rattle.answers.specs.Answers.{result, after}
use Rattle.answers.specs.Steps.{Step}
use Rattle.layers.specs.Layer.{size}
use Rattle.orders.specs.declared.consistent_permutation.ConsistentPermutation.{ConsistentPermutation}
use Rattle.orders.specs.Orders.{counter}
use Rattle.orders.specs.OrderCalls.{order_of, key_of, first_of}
use Rattle.orders.specs.InnerCounters.{top_step}
use Rattle.orders.proofs.CounterLaws.{within_at}
use Rattle.orders.proofs.NextLaws.{first_walk, top_none, top_high, top_zero, zero_zero, zero_lower}
use Rattle.orders.proofs.consistent_permutation.ConsistentPermutation.first.Goals as goal
use Rattle.orders.proofs.consistent_permutation.ConsistentPermutation.first.Goals.{After-walk-w, then-quarter-y-via-then-quarter-y, then-quarter-y-via-else-quarter-y+then-j-eq0}

-- what a call leaves
abbrev leaves : ConsistentPermutation → ℕ → Step ConsistentPermutation
leaves o j = first_of o j (size j - counter o.counters j) o.counters

-- what the walk found decides that
top : (c : After-walk-w) → leaves c.args.self.now c.args.top.now.layer.number ≡ top_step c.args.self.now c.args.top.now.layer.number c.walk-w.result
top c =
    let r = c.requires in
    let fifteen : length c.args.self.now.counters ≡ 15 = search rules in
    first_walk c.args.self.now c.args.top.now.layer.number _ _ r.layer r.some r.limit r.fit fifteen c.counter_at-from.ensures (rw r.key at c.walk-w.ensures)

pub walk-w-requires : goal.walk-w-requires
walk-w-requires c =
    let r = c.requires in
    omega (arith, c.counter_at-from.ensures, within_at _ r.fit c.args.top.now.layer.number c.args.top.now.layer.below)

pub returns-in_default : goal.returns-in_default
returns-in_default c =
    let o = c.args.self.now in
    ap (λ (ds : List ℕ). after (result none) (order_of (key_of o) o.n ds)) c.set_counter.ensures
    ∙ sym (top (goal.at.returns-in_default c).After-walk-w ∙ top_none o c.args.top.now.layer.number c.walk-w.result c.in_default.is)

pub returns-then-quarter-y : goal.returns-then-quarter-y
returns-then-quarter-y c =
    let o = c.args.self.now in
    let j = c.args.top.now.layer.number in
    let w = c.walk-w.result in
    let y = c.in-Some.y in
    let is : top_step o j w ≡ after (result (some y)) (order_of (key_of o) o.n (set o.counters j w.input)) =
    elim c.then-quarter-y.branch [
      | then-quarter-y-via-then-quarter-y b ↦ top_high o j y w c.in-Some.is (omega (arith, c.quarter.ensures, b.if-quarter-y.true))
      | then-quarter-y-via-else-quarter-y+then-j-eq0 b ↦
          top_zero o j y w c.in-Some.is (omega (arith, c.quarter.ensures, b.if-quarter-y.false)) ∙ zero_zero o j _ _ b.if-j-eq0.true
    ] in
    ap (λ (ds : List ℕ). after (result (some y)) (order_of (key_of o) o.n ds)) c.set_counter-then-quarter-y.ensures
    ∙ sym (top (goal.at.returns-then-quarter-y c).After-walk-w ∙ is)

pub returns : goal.returns
returns c =
    let o = c.args.self.now in
    let j = c.args.top.now.layer.number in
    let w = c.walk-w.result in
    c.lower.ensures
    ∙ sym (top (goal.at.returns c).After-walk-w
    ∙ top_zero o j c.in-Some.y w c.in-Some.is (omega (arith, c.quarter.ensures, c.if-quarter-y.false))
    ∙ zero_lower o j _ _ c.if-j-eq0.false)
