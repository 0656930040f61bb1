-- `choosers::choose_k::ConsistentChooseKHasher::shrink_n` meets its contract.
-- Assumes nothing.
use Rattle.std.proofs.lemmas.Result.{err_from_is_err_and}
use mathlib.Core.Path.{◌≡◌}
use Prim.Native.Nat.{◌-◌}
use lib.ListN.{length, get_or, take}
use lib.Seq.{length-take-le}
use native.Mathlib.Omega.{arith}
use Rattle.choosers.specs.ChooserCalls.{shrink_call}
use Rattle.choosers.proofs.CheckLaws.{fits_parts, sample_less, sample_below}
use Rattle.choosers.proofs.HoldingLaws.{alone_rises, alone_under, lower_whole}
use Rattle.choosers.proofs.ChooserCallLaws.{tests_refuse, passed, shrink_none, shrink_all, shrink_low, shrink_done}
use Rattle.choosers.proofs.ConsistentLaws.{shrink_both}
use Rattle.choosers.proofs.choose_k.ConsistentChooseKHasher.shrink_n.Goals as goal
use Rattle.choosers.proofs.choose_k.ConsistentChooseKHasher.shrink_n.Goals.{then-k-eq0-via-then-k-eq0, then-k-eq0-via-else-k-eq0+then-self, then-k-eq0-via-else-k-eq0+else-self+then-list-k}

pub returns-in_err-test : goal.returns-in_err-test
unfolding shrink_call
returns-in_err-test c =
    let e = err_from_is_err_and c.from_residual.result c.from_residual.ensures.1 in
    let both = shrink_both _ _ _ (tests_refuse _ _ _ _ c.in_err-test.ensures) in
    rw (e.1, e.2) (record { answer = both.0; consistent = both.1 })

pub returns-then-k-eq0 : goal.returns-then-k-eq0
returns-then-k-eq0 c =
    let p = passed _ _ c.in_ok-test.ensures in
    let both = shrink_both _ _ _ (elim c.then-k-eq0.branch [
      | then-k-eq0-via-then-k-eq0 w ↦ shrink_none _ _ p.0 p.1 w.if-k-eq0.true
      | then-k-eq0-via-else-k-eq0+then-self w ↦ shrink_all _ _ p.0 p.1 w.if-k-eq0.false w.if-self.true
      | then-k-eq0-via-else-k-eq0+else-self+then-list-k w ↦ shrink_low _ _ p.0 p.1 w.if-k-eq0.false w.if-self.false w.if-list-k.true
    ]) in
    record { answer = both.0; consistent = both.1 }

pub offset_bounds-list-k : goal.offset_bounds-list-k
offset_bounds-list-k c =
    let p = passed _ _ c.in_ok-test.ensures in
    record { fits = omega (arith, (fits_parts _ _ p.0).within) }

pub bounds-list-k : goal.bounds-list-k
bounds-list-k c =
    let p = passed _ _ c.in_ok-test.ensures in
    omega (arith, (fits_parts _ _ p.0).within)

pub lower-i-requires : goal.lower-i-requires
lower-i-requires c =
    let l = c.args.list.now in
    let k = c.args.self.now.k in
    let last = get_or l (k - 1) 0 in
    let t = passed _ _ c.in_ok-test.ensures in
    let p = fits_parts _ _ t.0 in
    let long : length (take k l) ≡ k = length-take-le k l p.within in
    record {
      few = omega (arith, long);
      small = omega (arith, t.1, sample_below _ _ p (k - 1) (omega arith));
      kept = λ i q. tt;
      rises = λ i j h q. alone_rises c.args.self.now.state k l k (omega arith) (sample_less _ _ p) i j h (omega (arith, long, q));
      under = λ i q. alone_under c.args.self.now.state k l k last (omega arith) (λ i q. sample_less _ _ p i (k - 1) (omega arith) (omega arith)) i (omega (arith, long, q));
    }

pub returns : goal.returns
returns c =
    let l = c.args.list.now in
    let k = c.args.self.now.k in
    let p = passed _ _ c.in_ok-test.ensures in
    let e = lower_whole c.args.self.now.state k l (fits_parts _ _ p.0).within (get_or l (k - 1) 0) c.lower-i.new.list c.lower-i.result c.lower-i.ensures.lowered in
    let both = shrink_both _ _ _ (shrink_done _ _ p.0 p.1 c.if-k-eq0.false c.if-self.false _ _ c.if-list-k.false e) in
    record { answer = both.0; consistent = both.1 }
