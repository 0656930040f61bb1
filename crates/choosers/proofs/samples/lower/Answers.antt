-- `choosers::samples::lower` meets its contract.
-- Assumes nothing.
use mathlib.Core.Path.{◌≡◌, sym, ap, ◌∙◌}
use mathlib.Core.List.{map}
use Prim.Native.Nat.{◌+◌, ◌-◌, ◌<◌, ◌≤◌, max}
use native.Mathlib.Omega.{arith}
use lib.ListN.{length, get_or, length-set}
use Rattle.choosers.specs.Choosers.{moved}
use Rattle.choosers.proofs.TurnLaws.{turn_stop, turn_end}
use Rattle.choosers.proofs.HoldingLaws.{sample_at, turn_ge, turn_less, turn_own, turn_leaves}
use Rattle.choosers.proofs.samples.lower.Goals as goal
use Rattle.choosers.proofs.samples.lower.Goals.{Joined-i-eq0, In-loop-i, then-i-eq0, else-i-eq0}
use Rattle.choosers.proofs.samples.lower.Given.{Over}

-- what the sample becomes
first : (g : Over) (c : Joined-i-eq0 g) → c.loop-i.i - 1 ≤ 0 → c.if-i-eq0.m ≡ c.own-v.result
first g c h =
    elim c.if-i-eq0.branch [
      | then-i-eq0 w ↦ w.m-is
      | else-i-eq0 w ↦ absurd (omega (arith, w.if-i-eq0.false))
    ]

later : (g : Over) (c : Joined-i-eq0 g) → 0 < c.loop-i.i - 1 → c.if-i-eq0.m ≡ max (get_or (map g.P.Holding.sample c.loop-i.list) (c.loop-i.i - 1 - 1) 0) c.own-v.result
later g c h =
    elim c.if-i-eq0.branch [
      | then-i-eq0 w ↦ absurd (omega (arith, w.if-i-eq0.true))
      | else-i-eq0 w ↦ omega (arith, w.m-is, w.max-m.ensures, w.sample-else-i-eq0.ensures, sample_at g.P.Holding.sample c.loop-i.list (c.loop-i.i - 1 - 1) (omega arith))
    ]

-- the sample that a turn looks at
seen : (g : Over) (c : In-loop-i g) → get_or (map g.P.Holding.sample c.loop-i.list) (c.loop-i.i - 1) 0 ≡ g.P.Holding.sample (get_or c.loop-i.list (c.loop-i.i - 1) 0)
seen g c = sample_at g.P.Holding.sample c.loop-i.list (c.loop-i.i - 1) (omega arith)

pub returns-then-sample-m-clause-lowered : goal.returns-then-sample-m-clause-lowered
returns-then-sample-m-clause-lowered g c =
    let l = c.loop-i in
    let s = seen g (goal.at.returns-then-sample-m-clause-lowered g c).In-loop-i in
    let e : l.i - 1 + 1 ≡ l.i = omega arith in
    ap (moved (map g.P.Holding.sample l.list)) e
    ∙ sym (l.invariant.2 ∙ turn_stop c.args.state l.i (map g.P.Holding.sample l.list) l.m (omega arith) (omega (arith, s, c.sample.ensures)))

pub hold-requires : goal.hold-requires
hold-requires g c =
    let l = c.loop-i in
    let v = l.invariant in
    let f = g.P.Holding.sample in
    let ge = turn_ge f g.P.Holding.keeps c.args.state l.list l.i l.m c.own-v.result c.if-i-eq0.m (omega arith) v.0 c.own-v.ensures (first g c) (later g c) in
    let less = turn_less f g.P.Holding.keeps c.args.state l.list l.i l.m c.own-v.result c.if-i-eq0.m (omega arith) v.0 c.own-v.ensures (first g c) (later g c) v.5 in
    (ge, omega arith)

pub loop-i-preserved : goal.loop-i-preserved
loop-i-preserved g c =
    let l = c.loop-i in
    let v = l.invariant in
    let p = g.P.Holding in
    let j = (goal.at.loop-i-preserved g c).Joined-i-eq0 in
    let s = seen g (goal.at.loop-i-preserved g c).In-loop-i in
    let k = c.hold.ensures.keeps c.args.state (l.i - 1) (turn_own p.sample p.keeps c.args.state l.list l.i l.m c.own-v.result c.if-i-eq0.m (omega arith) v.0 c.own-v.ensures (first g j) (later g j) v.5) in
    let w = turn_leaves p.sample p.keeps c.args.state l.list l.i l.m c.own-v.result c.if-i-eq0.m (omega arith) v.0 c.own-v.ensures (first g j) (later g j) (length l.list) c.hold.result
    (omega arith) (omega arith) (omega (arith, s, c.sample.ensures)) c.hold.ensures.sample k v.3 v.4 v.5 in
    (w.0, omega (arith, w.1), v.2 ∙ w.2, λ i h. w.3 i (omega (arith, h, length-set l.list (l.i - 1) c.hold.result)), w.4, w.5)

pub returns-clause-lowered : goal.returns-clause-lowered
returns-clause-lowered g c =
    sym (c.loop-i.invariant.2 ∙ turn_end c.args.state c.loop-i.i (map g.P.Holding.sample c.loop-i.list) c.loop-i.m (omega arith))
