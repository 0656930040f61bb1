-- `hashes::search::bits_below` meets its contract.
-- Assumes nothing.
use Prim.Native.Nat.{◌-◌}
use native.Mathlib.Omega.{arith}
use lib.Count.{leading_le}
use Rattle.lists.proofs.Places.{highest_place}
use Rattle.hashes.proofs.PrevLaws.{width_masked}
use Rattle.hashes.proofs.search.bits_below.Goals as goal

pub overflow_cast-result : goal.overflow_cast-result
overflow_cast-result c = record { fits = omega (arith, leading_le 64 (c.args.n - 1)) }

pub overflow_shr-result : goal.overflow_shr-result
overflow_shr-result c = omega (arith, (highest_place 64 (c.args.n - 1) (omega arith) (omega arith)).0)

pub returns : goal.returns
returns c = width_masked c.args.state c.args.n (leading_le 64 (c.args.n - 1))
