-- `orders::checks::survey_list` meets its contract.
-- Assumes nothing.
use mathlib.Core.Path.{◌≡◌}
use Prim.Native.Nat.{◌+◌, ◌^◌, ◌≤◌}
use lib.ListN.{drop}
use Rattle.lists.specs.Lists.{not_below}
use Rattle.orders.specs.Reservoirs.{counts}
use Rattle.orders.specs.InnerPasses.{surveyed, survey_of}
use Rattle.orders.proofs.checks.survey_list.Given as goal

abbrev pub invariant-loop-x : goal.invariant-loop-x
invariant-loop-x l = (l.count ≤ l.x-index) × (l.near + l.n ≤ 4 ^ 15) × (surveyed (counts l.n) (not_below l.n) l.count (l.near + l.n) l.high (drop l.x-index l.list) ≡ survey_of l.n l.list)
