-- `choosers::tables::small` meets its contract.
-- Assumes nothing.
use mathlib.Core.Path.{◌≡◌}
use lib.Dec.{leb}
use lib.ListN.{take}
use Rattle.lists.specs.Lists.{every}
use Rattle.choosers.specs.SlotCalls.{at_most_one}
use Rattle.choosers.proofs.tables.small.Given as goal

abbrev pub invariant-loop-byte : goal.invariant-loop-byte
invariant-loop-byte l = every at_most_one (take l.byte-index l.bytes) ≡ leb l.high 1
