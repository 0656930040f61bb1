-- `orders::fills::lay` meets its contract.
-- Assumes nothing.
use mathlib.Core.Path.{◌≡◌, sym, ap, ◌∙◌}
use mathlib.Core.List.{List, ◌++◌}
use Prim.Native.Nat.{ℕ, ◌-◌, ◌^◌, ◌≤◌}
use native.Mathlib.Omega.{arith}
use lib.ListN.{length, drop}
use lib.Seq.{length-take-le}
use Rattle.orders.specs.InnerPasses.{rank_of, arranged_over}
use Rattle.orders.proofs.LayLaws.{one_le, down_le, start_yes, start_no, length_arranged_over, arranged_front, lay_none, lay_more}
use Rattle.orders.proofs.fills.+lay.Goals as goal
use Rattle.orders.proofs.fills.+lay.Goals.{After-zeros-t}

rank_is : (t : ℕ) (c : After-zeros-t t) → c.zeros-t.result ≡ rank_of c.args.key (c.args.m - 1) (length c.args.list.now)
rank_is t c = rw (c.new-outputs.ensures.layer, c.new-outputs.ensures.key) at c.zeros-t.ensures

few : (t : ℕ) (c : After-zeros-t t) → (c.args.m ≡ 0 → ⊥) → (c.zeros-t.result ≤ 4 ^ (c.args.m - 1)) × (c.zeros-t.result ≤ length c.args.list.now)
few t c z = down_le _ _ _ _ z c.requires.size (rank_is t c)

pub returns-then-list-eq1 : goal.returns-then-list-eq1
returns-then-list-eq1 t c = start_yes _ _ c.if-list-eq1.true (omega arith) ∙ lay_none _ _ _ _ c.if-m-eq0.true

pub returns-else-list-eq1 : goal.returns-else-list-eq1
returns-else-list-eq1 t c =
    start_no _ _ c.if-list-eq1.false (one_le _ _ c.if-m-eq0.true c.requires.size) ∙ lay_none _ _ _ _ c.if-m-eq0.true

pub slice_bounds-lay-end : goal.slice_bounds-lay-end
slice_bounds-lay-end t c = (few t (goal.at.slice_bounds-lay-end t c).After-zeros-t c.if-m-eq0.false).1

pub slice_bounds-lay-end-2 : goal.slice_bounds-lay-end-2
slice_bounds-lay-end-2 t c =
    sym (length-take-le _ _ (few t (goal.at.slice_bounds-lay-end-2 t c).After-zeros-t c.if-m-eq0.false).1)

pub lay-requires : goal.lay-requires
lay-requires t c =
    let d = few t (goal.at.lay-requires t c).After-zeros-t c.if-m-eq0.false in
    (omega arith, (omega arith, rw (length-take-le _ _ d.1) d.0))

pub returns : goal.returns
returns t c =
    let e = c.new-outputs.ensures in
    let d = few t (goal.at.returns t c).After-zeros-t c.if-m-eq0.false in
    let laid : c.lay.new.list ++ drop c.zeros-t.result c.args.list.now ≡ arranged_over c.args.key (c.args.m - 1) c.zeros-t.result c.args.list.now =
    ap (λ (l : List ℕ). l ++ drop c.zeros-t.result c.args.list.now) c.lay.ensures ∙ arranged_front _ _ _ _ d.1 in
    rw (e.layer, e.key, laid, length_arranged_over c.args.key (c.args.m - 1) c.zeros-t.result c.args.list.now d.0 d.1) at c.cover.ensures
    ∙ lay_more _ _ _ _ _ c.if-m-eq0.false c.requires.size (rank_is t (goal.at.returns t c).After-zeros-t)
