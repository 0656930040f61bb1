-- `choosers::tables::small` meets its contract.
-- Assumes nothing.
use Rattle.choosers.proofs.TableLaws.{small_none, small_turn}
use Rattle.choosers.proofs.tables.small.Goals as goal

pub loop-byte-init : goal.loop-byte-init
loop-byte-init c = small_none

pub loop-byte-preserved : goal.loop-byte-preserved
loop-byte-preserved c = small_turn _ _ _ _ c.loop-byte-test.true c.max-high.ensures c.loop-byte.invariant
