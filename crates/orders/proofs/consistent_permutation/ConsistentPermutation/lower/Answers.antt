-- `orders::consistent_permutation::ConsistentPermutation::lower` meets its contract.
-- Assumes nothing.
use mathlib.Core.Path.{sym, ap, ◌∙◌}
use mathlib.Core.List.{List}
use mathlib.Core.Option.{some}
use Prim.Native.Nat.{ℕ, ◌-◌}
use native.Mathlib.Omega.{arith}
use Rattle.answers.specs.Answers.{result, after}
use Rattle.orders.specs.OrderCalls.{order_of, key_of}
use Rattle.orders.proofs.CounterLaws.{within_limit}
use Rattle.orders.proofs.NextLaws.{lower_met, lower_room, lower_low, lower_gave}
use Rattle.orders.proofs.consistent_permutation.ConsistentPermutation.lower.Goals as goal

pub returns-in_default : goal.returns-in_default
returns-in_default c = sym (lower_met c.args.self.now (c.args.top.number - 1) c.args.x c.in_default.ensures)

pub overflow_add-y : goal.overflow_add-y
overflow_add-y c =
    omega (arith, lower_room c.args.self.now (c.args.top.number - 1) _ (omega arith) c.in-Some.ensures)

pub of-requires : goal.of-requires
of-requires c = lower_room c.args.self.now (c.args.top.number - 1) _ (omega arith) c.in-Some.ensures

pub raise-requires-clause-above : goal.raise-requires-clause-above
raise-requires-clause-above c =
    omega (arith, lower_low c.args.self.now (c.args.top.number - 1) _ _ c.in-Some.ensures c.of.ensures)

pub raise-requires-clause-room : goal.raise-requires-clause-room
raise-requires-clause-room c = λ i h. within_limit _ c.requires.fit i (omega arith)

pub returns : goal.returns
returns c =
    let a = c.args in
    let o = a.self.now in
    ap (λ (ds : List ℕ). after (result (some c.in-Some.y)) (order_of (key_of o) o.n ds)) c.raise.ensures
    ∙ sym (lower_gave o a.top.number a.x _ _ c.requires.above c.in-Some.ensures c.of.ensures)
