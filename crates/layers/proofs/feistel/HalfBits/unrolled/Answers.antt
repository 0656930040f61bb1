-- `layers::feistel::HalfBits::unrolled` meets its contract.
-- Assumes nothing.
use Rattle.std.proofs.Common.{◌≡◌, ◌-◌, sym, arith, ◌∙◌}
use Rattle.layers.specs.Layer.{rounds}
use Rattle.layers.proofs.RoundLaws.{rounds_more}
use Rattle.layers.proofs.feistel.HalfBits.unrolled.Goals as goal

pub returns-then-n-lt4 : goal.returns-then-n-lt4
returns-then-n-lt4 c = rw (c.rounds-then-n-lt4.ensures, c.two_rounds-t.ensures) (sym (rounds_more c.args.self.bits 2 c.args.n c.args.s c.if-n-lt2.false))

pub returns : goal.returns
returns c =
    let a = c.args in
    let t = rounds a.self.bits 2 a.s in
    let e : a.n - 2 - 2 ≡ a.n - 4 = omega arith in
    rw (c.rounds-2.ensures, c.two_rounds-u.ensures, c.two_rounds-t.ensures, ← e)
    (sym (rounds_more a.self.bits 2 a.n a.s c.if-n-lt2.false ∙ rounds_more a.self.bits 2 (a.n - 2) t (omega (arith, c.if-n-lt4.false))))
