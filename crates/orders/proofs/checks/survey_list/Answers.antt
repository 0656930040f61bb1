-- `orders::checks::survey_list` meets its contract.
-- Assumes nothing.
use mathlib.Core.Path.{◌≡◌, refl}
use mathlib.Core.Bool.{cond}
use Prim.Native.Nat.{◌+◌, min}
use native.Mathlib.Omega.{arith}
use borrow.Author.Rules.{rules}
use lib.Dec.{ltb}
use lib.ListN.{get_or}
use Rattle.lists.specs.Lists.{not_below}
use Rattle.orders.specs.Reservoirs.{counts}
use Rattle.orders.proofs.CountsLaws.{counts_ltb}
use Rattle.orders.proofs.ScanLaws.{more_is, test_le}
use Rattle.orders.proofs.SurveyLaws.{survey_near, survey_turn, closer_is, closer_le}
use Rattle.orders.proofs.checks.survey_list.Goals as goal

pub loop-x-init : goal.loop-x-init
loop-x-init c = (omega arith, omega (arith, c.requires.limit), survey_near _ _ c.requires.limit)

pub loop-x-preserved : goal.loop-x-preserved
loop-x-preserved c =
    let l = c.loop-x in
    let v = l.invariant in
    let n = c.args.n in
    let x = get_or c.args.list.now l.x-index 0 in
    let count : l.count + c.from-count.result ≡ cond (counts n x) (l.count + 1) l.count =
    rw (c.from-count.ensures, counts_ltb n x) (more_is (ltb x n) l.count) in
    let low : c.min-near.result + n ≡ cond (not_below n x) (min x (l.near + n)) (l.near + n) =
    closer_is x n l.near _ _ (search rules) v.1 refl c.min-near.ensures in
    (omega (arith, c.from-count.ensures, test_le (ltb x n)), closer_le x _ _ _ v.1 low, survey_turn _ _ c.args.list.now l.x-index _ _ _ _ _ _ c.loop-x-test.true count low refl v.2)
