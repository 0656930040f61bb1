-- `choosers::samples::rising` meets its contract.
-- Assumes nothing.
use mathlib.Core.Path.{◌≡◌}
use lib.ListN.{length}
use Rattle.std.specs.Slice.Iter.{iter_rest}
use Rattle.std.specs.Iterator.Adapters.{rev_source}
use Rattle.choosers.specs.ChooserCalls.{ascends}
use Rattle.choosers.proofs.samples.rising.Given as goal

abbrev pub invariant-loop-x : goal.invariant-loop-x
invariant-loop-x l =
    let rest = iter_rest (rev_source l.x-iterator) in
    (goal.iterator-loop-x).can_next l.x-iterator × (goal.iterator-loop-x).is_finite l.x-iterator
    × (ascends l.samples (length l.samples) l.n ≡ ascends rest (length rest) l.bound)
