-- `choosers::node_map::ConsistentNodeMap::len` meets its contract.
-- Assumes nothing.
use Rattle.std.proofs.lemmas.Result.{err_from_is_err_and}
use mathlib.Core.Path.{sym, ap, ◌∙◌}
use native.Mathlib.Omega.{arith}
use lib.ListN.{length}
use lib.Seq.{length-take-le}
use Rattle.answers.specs.Answers.{result}
use Rattle.lists.specs.Lists.{every}
use Rattle.choosers.specs.SlotCalls.{at_most_one}
use Rattle.choosers.proofs.TableLaws.{actives_front}
use Rattle.choosers.proofs.SlotCallLaws.{small_parts, query_unfit, query_fit}
use Rattle.choosers.proofs.node_map.ConsistentNodeMap.len.Goals as goal

pub returns-in_err-slots : goal.returns-in_err-slots
returns-in_err-slots c =
    let e = err_from_is_err_and c.from_residual.result c.from_residual.ensures.1 in
    let u = c.in_err-slots.ensures in
    rw (e.1, e.2, u.misfit) (sym (query_unfit _ _ _ (sym u.fits)))

pub sum-requires : goal.sum-requires
sum-requires c =
    let u = c.in_ok-slots.ensures in
    let p = small_parts _ _ (sym u.fits) in
    record {
      small = ap (every at_most_one) u.bytes ∙ p.2;
      few = omega (arith, p.1, ap length u.bytes, length-take-le c.args.self.total c.args.table.now p.0);
    }

pub returns : goal.returns
returns c =
    let u = c.in_ok-slots.ensures in
    ap result (c.sum.ensures ∙ ap length (actives_front _ _ _ u.bytes (small_parts _ _ (sym u.fits)).0)) ∙ sym (query_fit _ _ _ (sym u.fits))
