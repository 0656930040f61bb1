-- `orders::fills::cover` meets its contract.
-- Assumes nothing.
use mathlib.Core.Path.{◌≡◌}
use Prim.Native.Nat.{◌+◌, ◌-◌, ◌^◌, ◌<◌, ◌≤◌}
use native.Mathlib.Omega.{arith}
use lib.ListN.{length}
use Rattle.layers.specs.Layer.{layer}
use Rattle.orders.specs.InnerPasses.{rank_of}
use Rattle.orders.proofs.CoverLaws.{rank_le, yes_rank, no_rank, yes_list, no_list, cover_start}
use Rattle.orders.proofs.fills.cover.Goals as goal
use Rattle.orders.proofs.fills.cover.Goals.{Then-y-quarter}

-- what a turn knows where the output has top bits 00
top : (c : Then-y-quarter) → layer c.args.outputs.layer.number c.args.outputs.key (c.loop-p.p - 1) < 4 ^ c.args.outputs.layer.number
top c = omega (arith, c.at-y.ensures, c.quarter-quarter.ensures, c.if-y-quarter.true)

taken : (c : Then-y-quarter) → c.loop-p.left ≡ rank_of c.args.outputs.key c.args.outputs.layer.number (c.loop-p.p - 1) + 1
taken c =
    let v = c.loop-p.invariant in
    yes_rank _ _ c.args.list.now (length c.args.list.now) (omega arith) _ _ _ (omega arith) (omega arith) v.0 v.1 (top c)

low : (c : Then-y-quarter) → c.loop-p.left ≤ c.loop-p.p
low c =
    let o = c.args.outputs in
    omega (arith, taken c, rank_le o.key o.layer.number (c.loop-p.p - 1))

pub loop-p-init : goal.loop-p-init
loop-p-init c = (c.requires.rank, cover_start _ _ c.args.list.now _ (omega arith))

pub overflow_sub-left : goal.overflow_sub-left
overflow_sub-left c = omega (arith, taken (goal.at.overflow_sub-left c).Then-y-quarter)

pub offset_bounds-list-left : goal.offset_bounds-list-left
offset_bounds-list-left c = omega (arith, low (goal.at.offset_bounds-list-left c).Then-y-quarter)

pub bounds-list-left : goal.bounds-list-left
bounds-list-left c =
    omega (arith, taken (goal.at.bounds-list-left c).Then-y-quarter, low (goal.at.bounds-list-left c).Then-y-quarter)

pub loop-p-preserved-then-y-quarter : goal.loop-p-preserved-then-y-quarter
loop-p-preserved-then-y-quarter c =
    let v = c.loop-p.invariant in
    let w = (goal.at.loop-p-preserved-then-y-quarter c).Then-y-quarter in
    (omega (arith, taken w), yes_list _ _ c.args.list.now (length c.args.list.now) (omega arith) _ _ _ (omega arith) (omega arith) v.0 v.1 (top w))

pub loop-p-preserved : goal.loop-p-preserved
loop-p-preserved c =
    let v = c.loop-p.invariant in
    let o = c.args.outputs in
    let y : 4 ^ o.layer.number ≤ layer o.layer.number o.key (c.loop-p.p - 1) = omega (arith, c.at-y.ensures, c.quarter-quarter.ensures, c.if-y-quarter.false) in
    (no_rank _ _ c.args.list.now (length c.args.list.now) (omega arith) _ _ _ (omega arith) (omega arith) v.0 v.1 y, rw c.at-y.ensures (no_list _ _ c.args.list.now (length c.args.list.now) (omega arith) _ _ _ (omega arith) (omega arith) v.0 v.1 y))
