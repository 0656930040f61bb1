-- `layers::feistel::HalfBits::rounds` meets its contract.
-- Assumes nothing.
use Rattle.std.proofs.Common.{◌≡◌, ◌+◌, ◌-◌, sym, ◌∙◌, arith}
use Rattle.layers.specs.Layer.{rounds}
use Rattle.layers.proofs.RoundLaws.{rounds_step}
use Rattle.layers.proofs.feistel.HalfBits.rounds.Goals as goal

pub loop-preserved : goal.loop-preserved
loop-preserved c =
    let l = c.loop in
    let a = c.args in
    let e : a.n - (l.counter + 1) ≡ a.n - l.counter - 1 = omega arith in
    rw (c.round-t.ensures, e) (sym (rounds_step a.self.bits (a.n - l.counter) l.t (omega arith)) ∙ l.invariant)

pub returns : goal.returns
unfolding rounds
returns c =
    let e : c.args.n - c.loop.counter ≡ 0 = omega arith in
    rw e at c.loop.invariant
