-- The loop of `vectors::Reading::take`.
-- Assumes nothing.
use lib.ListN.{length}
use Rattle.vectors.proofs.Reading.take.Given as goal

abbrev pub decreases-loop-size : goal.decreases-loop-size
decreases-loop-size l = length l.rest
