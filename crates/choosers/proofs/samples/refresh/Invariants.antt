-- `choosers::samples::refresh` meets its contract.
-- Assumes nothing.
use mathlib.Core.Path.{◌≡◌}
use lib.ListN.{length}
use Rattle.choosers.specs.Choosers.{largest_g}
use Rattle.choosers.specs.InnerChoosers.{Owns, OwnOr}
use Rattle.choosers.proofs.samples.refresh.Given as goal

abbrev pub invariant-loop-i : goal.invariant-loop-i
invariant-loop-i l = (l.high ≡ largest_g l.state l.i l.m) × Owns l.state l.list l.i l.m × OwnOr l.state l.list (length l.list) l.m
