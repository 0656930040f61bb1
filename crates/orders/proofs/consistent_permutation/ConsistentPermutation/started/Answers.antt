-- `orders::consistent_permutation::ConsistentPermutation::started` meets its contract.
-- Assumes nothing.
use mathlib.Core.Path.{refl}
use Prim.Native.Nat.{◌^◌}
use borrow.Author.Tests.{lt-ltb, le-ltb}
use Rattle.orders.specs.OrderCalls.{started_call}
use Rattle.orders.proofs.consistent_permutation.ConsistentPermutation.started.Goals as goal

pub returns-then-n-gt-N_LIMIT : goal.returns-then-n-gt-N_LIMIT
unfolding started_call
returns-then-n-gt-N_LIMIT c = rw (lt-ltb (2 ^ 30) c.args.n c.if-n-gt-N_LIMIT.true) refl

pub returns : goal.returns
unfolding started_call
returns c = rw (le-ltb (2 ^ 30) c.args.n c.if-n-gt-N_LIMIT.false) refl
