-- `orders::fills::cover` meets its contract.
-- Assumes nothing.
use mathlib.Core.Path.{◌≡◌}
use lib.ListN.{length}
use Rattle.lists.proofs.Writing.{part}
use Rattle.orders.specs.InnerPasses.{rank_of, laid_of}
use Rattle.orders.proofs.fills.cover.Given as goal

abbrev pub invariant-loop-p : goal.invariant-loop-p
invariant-loop-p l =
    let key = l.outputs.key in
    let i = l.outputs.layer.number in
    (l.left ≡ rank_of key i l.p) × (l.list ≡ part l.initial.list (laid_of key i (length l.initial.list) l.initial.list) l.p)
