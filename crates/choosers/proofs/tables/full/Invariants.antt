-- `choosers::tables::full` meets its contract.
-- Assumes nothing.
use mathlib.Core.Path.{◌≡◌}
use lib.Dec.{leb}
use lib.ListN.{take}
use Rattle.lists.specs.Lists.{every, not_below}
use Rattle.choosers.proofs.tables.full.Given as goal

abbrev pub invariant-loop-byte : goal.invariant-loop-byte
invariant-loop-byte l = every (not_below 1) (take l.byte-index l.block) ≡ leb 1 l.low
