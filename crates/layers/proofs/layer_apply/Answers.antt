-- `layers::layer_apply` meets its contract.
-- Assumes nothing.
use Rattle.std.proofs.Common.{◌≡◌, ◌<◌, ◌≤◌, ap, arith, le-ltb, lt-ltb, le-leb}
use borrow.Author.Tests.{lt-leb}
use Rattle.answers.specs.Answers.{result}
use Rattle.layers.specs.Layer.{size, layer}
use Rattle.layers.specs.Calls.{layer_apply}
use Rattle.layers.proofs.FormulaLaws.{half}
use Rattle.layers.proofs.layer_apply.Goals as goal

pub returns-then-layer-gt-LAYER_LIMIT : goal.returns-then-layer-gt-LAYER_LIMIT
unfolding layer_apply
returns-then-layer-gt-LAYER_LIMIT c = simp (lt-leb c.args.layer 14 (omega arith))

pub returns-then-size-x : goal.returns-then-size-x
unfolding layer_apply
returns-then-size-x c =
    let a = c.args in
    let q : size a.layer ≤ a.x = omega (arith, c.size.ensures) in
    simp (le-leb a.layer 14 (omega arith), le-ltb _ _ q)

pub new-half-requires : goal.new-half-requires
new-half-requires c = omega (arith, c.bits.ensures, half c.args.layer)

pub returns : goal.returns
unfolding layer_apply layer
returns c =
    let a = c.args in
    let q : a.x < size a.layer = omega (arith, c.size.ensures) in
    let e : c.network.result ≡ layer a.layer a.key a.x = rw (c.network.ensures, c.new-half.ensures, c.rounds.ensures, c.bits.ensures, half a.layer) in
    simp (le-leb a.layer 14 (omega arith), lt-ltb _ _ q) (ap result e)
