-- `choosers::tables::full` meets its contract.
-- Assumes nothing.
use Rattle.choosers.proofs.TableLaws.{full_none, full_turn}
use Rattle.choosers.proofs.tables.full.Goals as goal

pub loop-byte-init : goal.loop-byte-init
loop-byte-init c = full_none

pub loop-byte-preserved : goal.loop-byte-preserved
loop-byte-preserved c = full_turn _ _ _ _ c.loop-byte-test.true c.min-low.ensures c.loop-byte.invariant
