-- `layers::feistel::HalfBits::last_key` meets its contract.
-- Assumes nothing.
use Rattle.std.proofs.Common.{◌≡◌, ◌+◌, ◌-◌, sym, ◌∙◌, arith}
use Rattle.layers.specs.Permutations.{last_key}
use Rattle.layers.proofs.Inverse.{last_key_step}
use Rattle.layers.proofs.feistel.HalfBits.last_key.Goals as goal

pub loop-preserved : goal.loop-preserved
loop-preserved c =
    let l = c.loop in
    let a = c.args in
    let e : a.n - (l.counter + 1) ≡ a.n - l.counter - 1 = omega arith in
    rw (c.next_key-k.ensures, e) (sym (last_key_step a.self.bits (a.n - l.counter) l.k (omega arith)) ∙ l.invariant)

pub returns : goal.returns
unfolding last_key
returns c =
    let e : c.args.n - c.loop.counter ≡ 0 = omega arith in
    rw e at c.loop.invariant
