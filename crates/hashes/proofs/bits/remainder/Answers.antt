-- `hashes::bits::remainder` meets its contract.
-- Assumes nothing.
use native.Mathlib.Omega.{arith}
use lib.Pow.{pow_pos}
use borrow.Author.Rules.{rules}
use Rattle.lists.proofs.Numbers.{one_shl}
use Rattle.lists.proofs.Places.{masked}
use Rattle.hashes.proofs.bits.remainder.Goals as goal

pub overflow_sub-result : goal.overflow_sub-result
overflow_sub-result c = omega (arith, one_shl 64 c.args.j (search rules), pow_pos c.args.j)

pub returns : goal.returns
returns c = masked 64 c.args.x c.args.j (search rules)
