-- `orders::consistent_permutation::ConsistentPermutation::new` meets its contract.
-- Assumes nothing.
use mathlib.Core.Path.{refl}
use Prim.Native.Nat.{◌^◌}
use borrow.Author.Tests.{lt-ltb, le-ltb}
use Rattle.orders.specs.OrderCalls.{new_call}
use Rattle.orders.proofs.consistent_permutation.ConsistentPermutation.new.Goals as goal

pub returns-then-n-gt-N_LIMIT : goal.returns-then-n-gt-N_LIMIT
unfolding new_call
returns-then-n-gt-N_LIMIT c = rw (lt-ltb (2 ^ 30) c.args.n c.if-n-gt-N_LIMIT.true) refl

pub returns : goal.returns
unfolding new_call
returns c = rw (le-ltb (2 ^ 30) c.args.n c.if-n-gt-N_LIMIT.false) refl
