-- `exports::xor_inputs` meets its contract.
-- Assumes nothing.
use Rattle.std.proofs.Common.{◌≡◌, refl, ap, ap₂, ◌∙◌, bit_xor, mod-eq_of_lt, arith}
use Rattle.layers.specs.Inverses.{input_of}
use Rattle.exports.specs.Coded.{xors}
use Rattle.exports.proofs.XorLaws.{xors_step}
use Rattle.exports.proofs.xor_inputs.Goals as goal

pub loop-y-init : goal.loop-y-init
unfolding xors
loop-y-init c = λ j key h e w. refl

pub loop-y-preserved : goal.loop-y-preserved
loop-y-preserved c =
    let l = c.loop-y in
    λ j key h e w.
    ap₂ bit_xor (l.invariant j key h e w) (c.from-sum.ensures ∙ c.invert.ensures.layer j key h e ∙ ap (input_of j key) (mod-eq_of_lt (omega arith)))
    ∙ xors_step (input_of j key) l.y

pub returns : goal.returns
returns c =
    let l = c.loop-y in
    let e : l.y ≡ c.args.n = omega arith in
    λ j key h f w. l.invariant j key h f w ∙ ap (xors (input_of j key)) e
