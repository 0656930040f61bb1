-- `orders::order_walk::OrderWalk::next` meets its contract.
-- Assumes nothing.
use mathlib.Core.Path.{◌≡◌, sym, ap, ◌∙◌}
use native.Mathlib.Omega.{arith}
use borrow.Author.Rules.{rules}
use Rattle.std.proofs.Common.{length}
use Rattle.answers.specs.Steps.{Step}
use Rattle.orders.specs.declared.consistent_permutation.ConsistentPermutation.{ConsistentPermutation}
use Rattle.orders.specs.Orders.{layer_of}
use Rattle.answers.specs.Refusals.{answer_of_option}
use Rattle.answers.specs.Answers.{after}
use Rattle.orders.specs.OrderCalls.{next_call}
use Rattle.orders.proofs.NextLaws.{next_empty, next_first}
use Rattle.orders.proofs.FitLaws.{Keeps, next_keeps}
use Rattle.orders.proofs.order_walk.OrderWalk.next.Goals as goal
use Rattle.orders.proofs.order_walk.OrderWalk.next.Goals.{After-first}

-- a call of `next` on the order that is walked
called : (c : After-first) → after (answer_of_option c.first.result) c.first.new.self ≡ next_call c.args.self.now.order
called c =
    let w = c.args.self.now in
    c.first.ensures ∙ sym (next_first w.order _ w.fit w.limit c.if-self-eq0.false w.layer)

pub invariant_of-self : goal.invariant_of-self
invariant_of-self c =
    let w = c.args.self.now in
    let fifteen : length w.order.counters ≡ 15 = search rules in
    let walk : c.first.new.self ≡ (next_call w.order).left = ap (λ (s : Step ConsistentPermutation). s.left) (called (goal.at.invariant_of-self c).After-first) in
    let k : Keeps w.order c.first.new.self = rw walk (next_keeps w.order fifteen w.limit w.fit) in
    record { fit = k.fit; limit = omega (arith, k.n, w.limit); layer = w.layer ∙ ap layer_of (sym k.n); key = w.key ∙ sym k.key }

pub returns-then-self-eq0 : goal.returns-then-self-eq0
returns-then-self-eq0 c = sym (next_empty c.args.self.now.order c.args.self.now.fit c.if-self-eq0.true)

pub returns : goal.returns
returns c = called (goal.at.returns c).After-first
