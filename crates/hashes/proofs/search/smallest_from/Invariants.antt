-- `hashes::search::smallest_from` meets its contract.
-- Assumes nothing.
use Rattle.std.proofs.Common.{◌≡◌, true, ◌-◌, ◌≤◌, ◌<◌}
use Rattle.std.proofs.Math.Option.{none}
use Rattle.hashes.specs.Hashes.{is_set}
use Rattle.hashes.specs.InnerBuckets.{place_of}
use Rattle.hashes.proofs.NextLaws.{up_to}
use Rattle.hashes.proofs.search.smallest_from.Given as goal

abbrev pub invariant-loop-next : goal.invariant-loop-next
invariant-loop-next l =
    let j = place_of l.next in
    (0 < l.m) × (j ≤ 63) × (up_to l.state l.m j ≡ none) × (j < 63 → is_set l.state j ≡ true)

abbrev pub decreases-loop-next : goal.decreases-loop-next
decreases-loop-next l = 63 - place_of l.next
