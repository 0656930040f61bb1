-- `orders::fills::gather` meets its contract.
-- Assumes nothing.
use Rattle.std.proofs.Common.{◌≡◌, ◌<◌, ◌+◌, length}
use mathlib.Core.Path.{sym, ap, ◌∙◌}
use mathlib.Core.Bool.{cond}
use native.Mathlib.Omega.{arith}
use lib.Dec.{ltb}
use lib.ListN.{get_or, set}
use Rattle.orders.specs.Reservoirs.{counts}
use Rattle.orders.proofs.CountsLaws.{counts_ltb}
use Rattle.orders.proofs.ScanLaws.{more_is, test_le}
use Rattle.orders.proofs.GatherLaws.{gathered, gather_count, led_room, led_turn, led_end, led_ends, led_length}
use Rattle.orders.proofs.fills.gather.Goals as goal
use Rattle.orders.proofs.fills.gather.Goals.{In-loop-x}

room : (c : In-loop-x) → c.loop-x.t < length c.args.out.now
room c =
    let l = c.loop-x in
    omega (arith, l.invariant.0, led_room (counts c.args.n) c.args.list.now c.args.out.now c.requires.room (led_ends _ _ c.requires.ends) l.x-index c.loop-x-test.true)

pub offset_bounds-out-t : goal.offset_bounds-out-t
offset_bounds-out-t c = omega (arith, room (goal.at.offset_bounds-out-t c).In-loop-x)

pub bounds-out-t : goal.bounds-out-t
bounds-out-t c =
    let l = c.loop-x in
    omega (
      arith,
      room (goal.at.bounds-out-t c).In-loop-x,
      ap length l.invariant.1,
      led_length (counts c.args.n) c.args.list.now c.args.out.now c.requires.room (led_ends _ _ c.requires.ends) l.x-index (omega arith),
    )

pub overflow_add-t : goal.overflow_add-t
overflow_add-t c =
    let x = get_or c.args.list.now c.loop-x.x-index 0 in
    omega (arith, room (goal.at.overflow_add-t c).In-loop-x, c.from-t.ensures, test_le (ltb x c.args.n))

pub loop-x-preserved : goal.loop-x-preserved
loop-x-preserved c =
    let l = c.loop-x in
    let p = counts c.args.n in
    let xs = c.args.list.now in
    let old = c.args.out.now in
    let x = get_or xs l.x-index 0 in
    let count : l.t + c.from-t.result ≡ length (gathered p xs (l.x-index + 1)) =
    ap (λ k. l.t + k) c.from-t.ensures ∙ more_is (ltb x c.args.n) l.t ∙ ap (λ k. cond (ltb x c.args.n) (k + 1) k) l.invariant.0
    ∙ ap (λ b. cond b (length (gathered p xs l.x-index) + 1) (length (gathered p xs l.x-index))) (sym (counts_ltb c.args.n x))
    ∙ sym (gather_count p xs old l.x-index c.loop-x-test.true) in
    (count, ap (λ r. set r l.t x) l.invariant.1 ∙ led_turn p xs old c.requires.room (led_ends _ _ c.requires.ends) l.x-index l.t c.loop-x-test.true l.invariant.0)

pub returns : goal.returns
returns c =
    let l = c.loop-x in
    l.invariant.1 ∙ led_end (counts c.args.n) c.args.list.now c.args.out.now c.requires.room (led_ends _ _ c.requires.ends) l.x-index (omega arith)
