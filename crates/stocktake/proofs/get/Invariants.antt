-- The loop of `stocktake::get`: reads that were interrupted have taken nothing.
-- Assumes nothing.
use Rattle.std.specs.Io.KnownBytes.{Keeps}
use Rattle.stocktake.proofs.get.Given as goal

abbrev pub invariant-loop : goal.invariant-loop
invariant-loop g l = Keeps (g.R.Read.remaining l.initial.reader) (g.R.Read.remaining l.reader)
