-- `choosers::samples::choose` meets its contract.
-- Assumes nothing.
use lib.ListN.{length}
use Rattle.choosers.proofs.ChooseLaws.{Choosing}
use Rattle.choosers.proofs.samples.choose.Given as goal

abbrev pub invariant-loop-i : goal.invariant-loop-i
invariant-loop-i l = Choosing l.state (length l.initial.list) l.n l.list l.last l.i
