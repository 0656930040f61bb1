-- `words::wrapping_mul` meets its contract.
-- Assumes nothing.
use Rattle.std.proofs.Common.{refl}
use Rattle.words.specs.Words.{wrapping_mul}
use Rattle.words.proofs.wrapping_mul.Goals as goal

pub returns : goal.returns
unfolding wrapping_mul
returns c = refl
