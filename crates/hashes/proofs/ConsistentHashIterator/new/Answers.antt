-- `hashes::ConsistentHashIterator::new` meets its contract.
-- Assumes nothing.
use mathlib.Core.Path.{sym}
use native.Mathlib.Omega.{arith}
use Rattle.hashes.proofs.CallLaws.{limited_in, limited_out}
use Rattle.hashes.proofs.ConsistentHashIterator.new.Goals as goal

pub returns-then-n-gt-N_LIMIT : goal.returns-then-n-gt-N_LIMIT
returns-then-n-gt-N_LIMIT c = sym (limited_out c.args.n _ (omega arith))

pub returns : goal.returns
returns c = sym (limited_in c.args.n _ (omega arith))
