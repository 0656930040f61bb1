-- `hashes::buckets::Bucket::least_from` meets its contract.
-- Assumes nothing.
use Rattle.std.proofs.Common.{◌≡◌, ◌-◌, ◌^◌, max}
use Rattle.hashes.specs.Hashes.{draws, later_numbers}
use Rattle.hashes.specs.InnerSearch.{least_of}
use Rattle.hashes.proofs.buckets.Bucket.least_from.Given as goal

abbrev pub invariant-loop : goal.invariant-loop
invariant-loop l =
    let b = 2 ^ l.self.place in
    (l.stop ≡ max b l.m) × (least_of l.m l.least (later_numbers b (draws (255 - l.counter) l.d)) ≡ least_of l.m l.x (later_numbers b (draws 255 l.d0)))
