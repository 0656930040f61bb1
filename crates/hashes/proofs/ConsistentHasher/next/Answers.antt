-- `hashes::ConsistentHasher::next` meets its contract.
-- Assumes nothing.
use Rattle.std.proofs.Common.{sym, ap, ◌∙◌, arith}
use Rattle.answers.specs.Answers.{result}
use Rattle.hashes.proofs.CallLaws.{limited_in, limited_out}
use Rattle.hashes.proofs.ConsistentHasher.next.Goals as goal

pub returns-then-n-gt-N_LIMIT : goal.returns-then-n-gt-N_LIMIT
returns-then-n-gt-N_LIMIT c = sym (limited_out c.args.n _ (omega arith))

pub returns : goal.returns
returns c = ap result c.smallest_from.ensures ∙ sym (limited_in c.args.n _ (omega arith))
