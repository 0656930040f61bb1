-- `hashes::buckets::or_low` meets its contract.
-- Assumes nothing.
use native.Mathlib.Omega.{arith}
use Rattle.lists.proofs.Tests.{below_yes, below_no}
use Rattle.hashes.proofs.buckets.or_low.Goals as goal

pub returns-then-x-b : goal.returns-then-x-b
returns-then-x-b c =
    let a = c.args in
    rw (below_yes a.x a.b (omega arith))

pub returns-else-x-b : goal.returns-else-x-b
returns-else-x-b c =
    let a = c.args in
    rw (below_no a.x a.b (omega arith))
