-- `choosers::samples::grow` meets its contract.
-- Assumes nothing.
use mathlib.Core.Path.{◌≡◌, sym, ◌∙◌}
use mathlib.Core.List.{map}
use Prim.Native.Nat.{suc, ◌-◌, ◌<◌, ◌≤◌}
use native.Mathlib.Omega.{arith}
use lib.ListN.{length, get_or}
use lib.Seq.{length-take-le}
use Rattle.choosers.specs.Choosers.{g}
use Rattle.choosers.proofs.SampleLaws.{g_lt, g_ge}
use Rattle.choosers.proofs.HoldingLaws.{sample_at, front_kept, front_rises, rises_under, own_beside, put_end, put_mid}
use Rattle.choosers.proofs.samples.grow.Goals as goal
use Rattle.choosers.proofs.samples.grow.Goals.{Start, After-get_sample-v, After-sample-last, Joined-then-k-eq0, then-k-eq0-via-then-k-eq0, then-k-eq0-via-else-k-eq0+then-sample-v}
use Rattle.choosers.proofs.samples.grow.Given.{Over}

-- all places but the last
long : (g : Over) (c : Start g) → length c.args.list.now ≡ suc (length c.args.list.now - 1)
long g c = omega (arith, c.requires.some)

-- the value of the new sequence is below n
value : (g' : Over) (c : After-get_sample-v g') → c.get_sample-v.result < c.args.n
value g' c = omega (arith, c.get_sample-v.ensures, g_lt c.args.state (length c.args.list.now - 1) c.args.n (omega (arith, c.requires.some, c.requires.few)))

pub hold-requires : goal.hold-requires
hold-requires g c = (omega arith, omega (arith, value g (goal.at.hold-requires g c).After-get_sample-v, c.requires.small.0))

-- the last sample before
last : (g : Over) (c : After-sample-last g) → get_or (map g.P.Holding.sample c.args.list.now) (length c.args.list.now - 1 - 1) 0 ≡ c.sample-last.result
last g c = sample_at g.P.Holding.sample c.args.list.now (length c.args.list.now - 1 - 1) (omega (arith, c.requires.some)) ∙ sym c.sample-last.ensures

last_below : (g : Over) (c : After-sample-last g) → c.sample-last.result < c.args.n
last_below g c = omega (arith, last g c, c.requires.some, c.requires.below (length c.args.list.now - 1 - 1) (omega (arith, c.if-k-eq0.false)))

pub returns-then-k-eq0 : goal.returns-then-k-eq0
returns-then-k-eq0 g' c =
    let a = c.args in
    let p = g'.P.Holding in
    let k = length a.list.now - 1 in
    let v = c.get_sample-v in
    let start = (goal.at.returns-then-k-eq0 g' c).Start in
    let above : 0 < k → get_or (map p.sample a.list.now) (k - 1) 0 < g a.state k a.n
    = λ h. elim c.then-k-eq0.branch [
      | then-k-eq0-via-then-k-eq0 w ↦ absurd (omega (arith, w.if-k-eq0.true))
      | then-k-eq0-via-else-k-eq0+then-sample-v w ↦ omega (arith, w.if-sample-v.true, w.sample.ensures, sample_at p.sample a.list.now (k - 1) (omega arith), v.ensures)
    ] in
    let keeps = c.hold.ensures.keeps a.state k (own_beside p.sample p.keeps a.state k a.n v.result v.result v.ensures (omega arith) (value g' (goal.at.returns-then-k-eq0 g' c).After-get_sample-v)) in
    let w = put_end p.sample p.keeps a.state k a.n a.list.now c.hold.result (long g' start) keeps above (c.hold.ensures.sample ∙ v.ensures) c.requires.kept in
    record { grown = w.0; kept = w.1 }

pub lower-i-requires : goal.lower-i-requires
lower-i-requires g' c =
    let a = c.args in
    let p = g'.P.Holding in
    let k = length a.list.now - 1 in
    let r = c.requires in
    let here = (goal.at.lower-i-requires g' c).After-sample-last in
    record {
      few = omega (arith, length-take-le k a.list.now (omega arith), c.if-sample-v.false, c.sample.ensures, c.sample-last.ensures, c.get_sample-v.ensures, g_ge a.state k a.n);
      small = omega (arith, last_below g' here, r.small.0);
      kept = front_kept p.sample p.keeps a.state k a.list.now (omega arith) r.kept;
      rises = front_rises p.sample k a.list.now (omega arith) r.rises;
      under = rises_under p.sample k a.list.now c.sample-last.result (omega arith) r.rises (last g' here);
    }

pub hold-requires-2 : goal.hold-requires-2
hold-requires-2 g c =
    (omega (arith, c.if-sample-v.false, c.sample.ensures, c.sample-last.ensures), omega (arith, last_below g (goal.at.hold-requires-2 g c).After-sample-last, c.requires.small.0))

pub returns : goal.returns
returns g' c =
    let a = c.args in
    let p = g'.P.Holding in
    let k = length a.list.now - 1 in
    let v = c.get_sample-v in
    let b = c.sample-last.result in
    let here = (goal.at.returns g' c).After-sample-last in
    let between : v.result ≤ b = omega (arith, c.if-sample-v.false, c.sample.ensures, c.sample-last.ensures) in
    let keeps = c.hold-2.ensures.keeps a.state k (own_beside p.sample p.keeps a.state k a.n v.result b v.ensures between (last_below g' here)) in
    let same : length c.lower-i.new.list ≡ k = c.lower-i.auto.list ∙ length-take-le k a.list.now (omega arith) in
    let kept = rw same at c.lower-i.ensures.kept in
    let w = put_mid p.sample p.keeps a.state k a.n a.list.now c.hold-2.result (long g' (goal.at.returns g' c).Start) keeps c.if-k-eq0.false b (last g' here) (omega (arith, between, v.ensures))
    c.hold-2.ensures.sample c.lower-i.new.list c.lower-i.result same c.lower-i.ensures.lowered kept in
    record { grown = w.0; kept = w.1 }
