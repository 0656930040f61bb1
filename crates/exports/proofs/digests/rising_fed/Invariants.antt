-- `exports::digests::rising_fed` meets its contract.
-- Assumes nothing.
use Rattle.std.proofs.Common.{◌≡◌, length}
use Rattle.hashes.proofs.WalkLaws.{Rises, above_of}
use Rattle.exports.specs.Coded.{fed_all}
use Rattle.exports.proofs.digests.rising_fed.Given as goal

abbrev pub invariant-loop-x : goal.invariant-loop-x
invariant-loop-x l = Rises l.walk × (fed_all l.d (above_of l.walk) ≡ fed_all 0 (above_of l.initial.walk))

abbrev pub decreases-loop-x : goal.decreases-loop-x
decreases-loop-x l = length (above_of l.walk)
