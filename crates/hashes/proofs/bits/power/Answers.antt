-- `hashes::bits::power` meets its contract.
-- Assumes nothing.
use borrow.Author.Rules.{rules}
use Rattle.lists.proofs.Numbers.{one_shl}
use Rattle.hashes.proofs.bits.power.Goals as goal

pub returns : goal.returns
returns c = one_shl 64 c.args.j (search rules)
