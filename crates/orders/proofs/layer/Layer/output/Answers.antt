-- `orders::layer::Layer::output` meets its contract.
-- Assumes nothing.
use Rattle.std.proofs.Common.{◌≡◌, Ok, ◌∙◌, ap, arith, is_ok}
use Rattle.answers.proofs.BackLaws.{answer_ok}
use Rattle.layers.specs.Layer.{layer}
use Rattle.layers.proofs.CallLaws.{apply_in}
use Rattle.orders.proofs.layer.Layer.output.Goals as goal
use Rattle.orders.proofs.layer.Layer.output.Goals.{After-layer_apply}

applied : (c : After-layer_apply) → c.layer_apply.result ≡ Ok (layer c.args.self.number c.args.key c.args.x)
applied c =
    let a = c.args in
    answer_ok _ _ (c.layer_apply.ensures ∙ apply_in a.self.number a.key a.x (omega (arith, a.self.below)) c.requires)

pub unwrap-requires : goal.unwrap-requires
unwrap-requires c = ap is_ok (applied (goal.at.unwrap-requires c).After-layer_apply)

pub returns : goal.returns
returns c = let e = c.unwrap.ensures in let f = applied (goal.at.returns c).After-layer_apply in cc
