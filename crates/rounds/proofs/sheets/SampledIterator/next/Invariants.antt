-- The loop of `rounds::sheets::Sampled::next`: what is left of the sample stays while numbers that do not belong to it are passed over.
-- Assumes nothing.
use Rattle.std.proofs.Common.{◌≡◌, length}
use Rattle.std.specs.Slice.Iter.{iter_rest}
use Rattle.rounds.specs.InnerRounds.{still_sampled}
use Rattle.rounds.proofs.sheets.SampledIterator.next.Given as goal

abbrev pub invariant-loop-x : goal.invariant-loop-x
invariant-loop-x l = (still_sampled l.self ≡ still_sampled l.initial.self)

abbrev pub decreases-loop-x : goal.decreases-loop-x
decreases-loop-x l = length (iter_rest l.self.rest)
