-- The loop of `stocktake::fed`.
-- Assumes nothing.
use Rattle.std.proofs.Common.{length}
use Rattle.lines.specs.Streams.{world_of}
use Rattle.lines.specs.Inputs.{Fits}
use Rattle.stocktake.specs.Pieces.{stands}
use Rattle.stocktake.proofs.PieceLaws.{Going}
use Rattle.stocktake.proofs.fed.Given as goal

abbrev pub invariant-loop-taken : goal.invariant-loop-taken
invariant-loop-taken g l = Fits l.session.held l.line (world_of l.session l.memory) l.out
    × Going (stands l.initial.session l.initial.line l.initial.memory) l.piece (stands l.session l.line l.memory) l.rest
    (g.W.Write.contents l.initial.writer) (g.W.Write.contents l.writer)

abbrev pub decreases-loop-taken : goal.decreases-loop-taken
decreases-loop-taken g l = length l.rest
