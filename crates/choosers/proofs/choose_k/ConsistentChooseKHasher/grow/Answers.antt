-- `choosers::choose_k::ConsistentChooseKHasher::grow` meets its contract.
-- Assumes nothing.
use mathlib.Core.Path.{◌≡◌, sym}
use lib.ListN.{length, take}
use lib.Seq.{length-take-le}
use mathlib.Core.Bool.{true}
use Prim.Native.Nat.{◌+◌, ◌≤◌, ◌^◌}
use native.Mathlib.Omega.{arith}
use Rattle.choosers.specs.ChooserCalls.{fitting}
use Rattle.choosers.proofs.CheckLaws.{fits_parts, sample_less, sample_below}
use Rattle.choosers.proofs.HoldingLaws.{alone_rises, alone_under, grow_whole}
use Rattle.choosers.proofs.ChooserCallLaws.{passed, grown_short, grown_done}
use Rattle.choosers.proofs.choose_k.ConsistentChooseKHasher.grow.Goals as goal
use Rattle.choosers.proofs.choose_k.ConsistentChooseKHasher.grow.Goals.{Start}

-- the record fits its list, and its n is not above the limit
good : (c : Start) → (fitting c.args.self.now c.args.list.now ≡ true) × (c.args.self.now.n ≤ 2 ^ 62)
good c = passed _ _ (sym c.requires.tested)

pub returns-then-list-k : goal.returns-then-list-k
returns-then-list-k c =
    let g = good (goal.at.returns-then-list-k c).Start in
    grown_short _ _ g.0 g.1 c.if-list-k.true

pub grow-i-requires : goal.grow-i-requires
grow-i-requires c =
    let a = c.args in
    let l = a.list.now in
    let k = a.self.now.k in
    let g = good (goal.at.grow-i-requires c).Start in
    let p = fits_parts _ _ g.0 in
    let long : length (take (k + 1) l) ≡ k + 1 = length-take-le (k + 1) l (omega arith) in
    record {
      some = omega (arith, long);
      few = omega (arith, long, p.few, c.requires.more);
      small = (g.1, g.1);
      kept = λ i q. tt;
      rises = λ i j h q. alone_rises a.self.now.state k l (k + 1) (omega arith) (sample_less _ _ p) i j h (omega (arith, long, q));
      below = λ i q. alone_under a.self.now.state (k + 1) l (k + 1) a.self.now.n (omega arith) (λ i q. sample_below _ _ p i (omega arith)) i (omega (arith, long, q));
    }

pub returns : goal.returns
returns c =
    let a = c.args in
    let g = good (goal.at.returns c).Start in
    let e = grow_whole a.self.now.state a.self.now.k a.list.now (omega arith) a.self.now.n c.grow-i.new.list c.grow-i.result c.grow-i.ensures.grown in
    grown_done _ _ g.0 g.1 c.requires.more (omega arith) _ _ e
