-- `exports::digests::falling_fed` meets its contract.
-- Assumes nothing.
use Rattle.std.proofs.Common.{◌≡◌, length}
use Rattle.hashes.proofs.WalkLaws.{Falls, below_of}
use Rattle.exports.specs.Coded.{fed_all}
use Rattle.exports.proofs.digests.falling_fed.Given as goal

abbrev pub invariant-loop-x : goal.invariant-loop-x
invariant-loop-x l = Falls l.walk × (fed_all l.d (below_of l.walk) ≡ fed_all 0 (below_of l.initial.walk))

abbrev pub decreases-loop-x : goal.decreases-loop-x
decreases-loop-x l = length (below_of l.walk)
