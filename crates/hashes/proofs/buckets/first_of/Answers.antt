-- `hashes::buckets::first_of` meets its contract.
-- Assumes nothing.
use native.Mathlib.Omega.{arith}
use Rattle.lists.proofs.Tests.{below_yes, below_no}
use Rattle.hashes.proofs.buckets.first_of.Goals as goal

pub returns-then-x-n : goal.returns-then-x-n
returns-then-x-n c =
    let a = c.args in
    rw (below_yes a.x a.n (omega arith))

pub returns-else-x-n : goal.returns-else-x-n
returns-else-x-n c =
    let a = c.args in
    rw (below_no a.x a.n (omega arith))
