-- `hashes::buckets::Bucket::more_below` meets its contract.
-- Assumes nothing.
use Rattle.std.proofs.Common.{◌≡◌, ◌-◌}
use Rattle.hashes.specs.InnerSearch.{first_later}
use Rattle.hashes.proofs.buckets.Bucket.more_below.Given as goal

abbrev pub invariant-loop : goal.invariant-loop
invariant-loop l =
    let j = l.self.place in
    first_later l.n j l.low (l.count - l.counter) l.d ≡ first_later l.n j l.low l.count l.d0
