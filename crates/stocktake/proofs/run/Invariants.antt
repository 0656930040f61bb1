-- The loop of `stocktake::run`.
-- Assumes nothing.
use Rattle.std.proofs.Common.{length, ◌<◌}
use Rattle.lines.specs.Streams.{world_of}
use Rattle.lines.specs.Inputs.{Fits}
use Rattle.stocktake.specs.Pieces.{stands, begun}
use Rattle.stocktake.proofs.PieceLaws.{Running}
use Rattle.stocktake.proofs.run.Given as goal

abbrev pub invariant-loop : goal.invariant-loop
invariant-loop g l = (0 < length l.input) × Fits l.session.held l.line (world_of l.session l.memory) l.out
    × Running (begun l.initial.memory) (stands l.session l.line l.memory) (g.R.Read.remaining l.initial.reader) (g.R.Read.remaining l.reader)
    (g.W.Write.contents l.initial.writer) (g.W.Write.contents l.writer)
