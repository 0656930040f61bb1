-- `words::rotate_right` meets its contract.
-- Assumes nothing.
use Rattle.std.proofs.Common.{◌%◌, arith}
use Rattle.words.specs.Words.{rotate_right}
use Rattle.words.proofs.Rotations.{by_shifts}
use Rattle.words.proofs.rotate_right.Goals as goal

pub returns : goal.returns
unfolding rotate_right
returns c = rw c.rotate_right.ensures (by_shifts c.args.x (c.args.places % 64) (omega arith) (omega arith))
