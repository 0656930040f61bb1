-- `orders::layer::Layer::input` meets its contract.
-- Assumes nothing.
use Rattle.std.proofs.Common.{◌≡◌, Ok, ◌∙◌, ap, arith, is_ok}
use Rattle.answers.proofs.BackLaws.{answer_ok}
use Rattle.layers.specs.Inverses.{input_of}
use Rattle.layers.proofs.InverseLaws.{invert_in}
use Rattle.orders.proofs.layer.Layer.input.Goals as goal
use Rattle.orders.proofs.layer.Layer.input.Goals.{After-layer_invert}

inverted : (c : After-layer_invert) → c.layer_invert.result ≡ Ok (input_of c.args.self.number c.args.key c.args.y)
inverted c =
    let a = c.args in
    answer_ok _ _ (c.layer_invert.ensures ∙ invert_in a.self.number a.key a.y (omega (arith, a.self.below)) c.requires)

pub unwrap-requires : goal.unwrap-requires
unwrap-requires c = ap is_ok (inverted (goal.at.unwrap-requires c).After-layer_invert)

pub returns : goal.returns
returns c = let e = c.unwrap.ensures in let f = inverted (goal.at.returns c).After-layer_invert in cc
