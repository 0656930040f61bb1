-- `layers::feistel::HalfBits::back` meets its contract.
-- Assumes nothing.
use Rattle.std.proofs.Common.{◌≡◌, ◌+◌, ◌-◌, arith}
use Rattle.layers.proofs.Inverse.{back_turn, back_done, back_any}
use Rattle.layers.proofs.feistel.HalfBits.back.Goals as goal

pub loop-init : goal.loop-init
loop-init c =
    let a = c.args in
    let e : a.n - 0 ≡ a.n = omega arith in
    rw e (c.last_key.ensures, back_any a.self.bits a.n a.key c.last_key.result a.s)

pub loop-preserved : goal.loop-preserved
loop-preserved c =
    let l = c.loop in
    let a = c.args in
    let e : a.n - (l.counter + 1) ≡ a.n - l.counter - 1 = omega arith in
    rw (c.undo-t.ensures, e) (back_turn a.self.bits (a.n - l.counter) a.key _ l.t a.self.few (omega arith) (omega arith) l.invariant)

pub returns : goal.returns
returns c =
    let a = c.args in
    let e : a.n - c.loop.counter ≡ 0 = omega arith in
    back_done a.self.bits a.key _ c.loop.t (rw e at c.loop.invariant)
