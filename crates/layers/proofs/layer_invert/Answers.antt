-- `layers::layer_invert` meets its contract.
-- Assumes nothing.
use Rattle.std.proofs.Common.{◌≡◌, ◌<◌, ◌≤◌, ap, sym, ◌∙◌, arith, le-ltb, lt-ltb, le-leb}
use borrow.Author.Tests.{lt-leb}
use Rattle.answers.specs.Answers.{result}
use Rattle.layers.specs.Layer.{size}
use Rattle.layers.specs.Inverses.{layer_invert}
use Rattle.layers.specs.Permutations.{unlayer}
use Rattle.layers.proofs.FormulaLaws.{half}
use Rattle.layers.proofs.InverseLaws.{input_is}
use Rattle.layers.proofs.layer_invert.Goals as goal

pub returns-then-layer-gt-LAYER_LIMIT : goal.returns-then-layer-gt-LAYER_LIMIT
unfolding layer_invert
returns-then-layer-gt-LAYER_LIMIT c = simp (lt-leb c.args.layer 14 (omega arith))

pub returns-then-size-y : goal.returns-then-size-y
unfolding layer_invert
returns-then-size-y c =
    let a = c.args in
    let q : size a.layer ≤ a.y = omega (arith, c.size.ensures) in
    simp (le-leb a.layer 14 (omega arith), le-ltb _ _ q)

pub new-half-requires : goal.new-half-requires
new-half-requires c = omega (arith, c.bits.ensures, half c.args.layer)

pub returns : goal.returns
unfolding layer_invert unlayer
returns c =
    let a = c.args in
    let q : a.y < size a.layer = omega (arith, c.size.ensures) in
    let e : c.back_network.result ≡ unlayer a.layer a.key a.y = rw (c.back_network.ensures, c.new-half.ensures, c.rounds.ensures, c.bits.ensures, half a.layer) in
    simp (le-leb a.layer 14 (omega arith), lt-ltb _ _ q) (ap result (e ∙ sym (input_is a.layer a.key a.y q)))
