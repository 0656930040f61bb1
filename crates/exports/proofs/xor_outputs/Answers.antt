-- `exports::xor_outputs` meets its contract.
-- Assumes nothing.
use Rattle.std.proofs.Common.{◌≡◌, refl, ap, ap₂, ◌∙◌, bit_xor, arith}
use Rattle.layers.specs.Layer.{layer}
use Rattle.exports.specs.Coded.{xors}
use Rattle.exports.proofs.XorLaws.{xors_step}
use Rattle.exports.proofs.xor_outputs.Goals as goal

pub loop-x-init : goal.loop-x-init
unfolding xors
loop-x-init c = λ j key h e. refl

pub loop-x-preserved : goal.loop-x-preserved
loop-x-preserved c =
    let l = c.loop-x in
    λ j key h e. ap₂ bit_xor (l.invariant j key h e) (c.from-sum.ensures ∙ c.apply.ensures.layer j key h e) ∙ xors_step (layer j key) l.x

pub returns : goal.returns
returns c =
    let l = c.loop-x in
    let e : l.x ≡ c.args.n = omega arith in
    λ j key h f. l.invariant j key h f ∙ ap (xors (layer j key)) e
