-- `orders::consistent_permutation::ConsistentPermutation::tested` meets its contract.
-- Assumes nothing.
use mathlib.Core.Path.{◌≡◌, sym, ◌∙◌}
use mathlib.Core.Bool.{true}
use Prim.Native.Nat.{◌^◌}
use borrow.Author.Tests.{lt-ltb, le-ltb}
use Rattle.orders.specs.OrderCalls.{within, tested}
use Rattle.orders.proofs.consistent_permutation.ConsistentPermutation.tested.Goals as goal
use Rattle.orders.proofs.consistent_permutation.ConsistentPermutation.tested.Goals.{Else-not-within_sizes}

fit : (c : Else-not-within_sizes) → within c.args.self.now.counters ≡ true
fit c = sym c.within_sizes.ensures ∙ c.if-not-within_sizes.false

pub returns-then-not-within_sizes : goal.returns-then-not-within_sizes
unfolding tested
returns-then-not-within_sizes c = rw (sym c.within_sizes.ensures ∙ c.if-not-within_sizes.true)

pub returns-then-self-gt-N_LIMIT : goal.returns-then-self-gt-N_LIMIT
unfolding tested
returns-then-self-gt-N_LIMIT c =
    rw (fit (goal.at.returns-then-self-gt-N_LIMIT c).Else-not-within_sizes, lt-ltb (2 ^ 30) c.args.self.now.n c.if-self-gt-N_LIMIT.true)

pub returns : goal.returns
unfolding tested
returns c = rw (fit (goal.at.returns c).Else-not-within_sizes, le-ltb (2 ^ 30) c.args.self.now.n c.if-self-gt-N_LIMIT.false)
