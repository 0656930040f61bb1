-- `choosers::samples::refresh` meets its contract.
-- Assumes nothing.
use mathlib.Core.Path.{◌≡◌, ◌∙◌}
use mathlib.Core.Logic.{⊎_elim}
use native.Mathlib.Omega.{arith}
use lib.ListN.{length, length-set}
use Rattle.choosers.specs.Choosers.{g}
use Rattle.choosers.proofs.ChooseLaws.{top_none, top_more, owns_more, own_or_set}
use Rattle.choosers.proofs.samples.refresh.Goals as goal
use Rattle.choosers.proofs.samples.refresh.Goals.{After-max-high, then-x-m, else-x-m}

pub loop-i-init : goal.loop-i-init
loop-i-init c = (top_none _ _, λ j p. absurd (omega arith), c.requires.2)

-- what a place comes to hold
own : (c : After-max-high) → c.if-x-m.x ≡ g c.args.state c.loop-i.i c.args.m
own c =
    elim c.if-x-m.branch [
      | then-x-m w ↦ w.x-is ∙ w.get_sample.ensures
      | else-x-m w ↦ w.x-is ∙ ⊎_elim (λ e. absurd (w.if-x-m.false e)) (λ e. e) (c.loop-i.invariant.2 c.loop-i.i (omega arith))
    ]

pub loop-i-preserved : goal.loop-i-preserved
loop-i-preserved c =
    let a = c.args in
    let l = c.loop-i in
    let e = own (goal.at.loop-i-preserved c).After-max-high in (
      top_more a.state l.i a.m l.high c.max-high.result c.if-x-m.x l.invariant.0 e c.max-high.ensures,
      owns_more a.state l.list l.i a.m c.if-x-m.x (omega arith) l.invariant.1 e,
      λ j p. own_or_set a.state l.list (length l.list) l.i a.m c.if-x-m.x (omega arith) l.invariant.2 e j (omega (arith, p, length-set l.list l.i c.if-x-m.x)),
    )
