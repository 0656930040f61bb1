-- `words::splitmix64` meets its contract.
-- Assumes nothing.
use Rattle.words.specs.Words.{mix}
use Rattle.words.proofs.splitmix64.Goals as goal

pub returns : goal.returns
unfolding mix
returns c = rw (c.wrapping_mul-x.ensures, c.wrapping_mul-y.ensures)
