-- `hashes::bits::highest` meets its contract.
-- Assumes nothing.
use native.Mathlib.Omega.{arith}
use borrow.Author.Rules.{rules}
use Rattle.lists.proofs.Places.{highest_place}
use Rattle.hashes.proofs.bits.highest.Goals as goal

pub overflow_sub-result : goal.overflow_sub-result
overflow_sub-result c = omega (arith, (highest_place 64 c.args.x (search rules) (search rules)).0)

pub returns : goal.returns
returns c =
    let t = highest_place 64 c.args.x (search rules) (search rules) in
    (t.1, t.2, omega (arith, t.0))
