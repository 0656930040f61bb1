-- `orders::outputs::Outputs::new` meets its contract.
-- Assumes nothing.
use Rattle.std.proofs.Common.{◌≡◌, Ok, ◌∙◌, ap, arith, is_ok}
use Rattle.answers.proofs.BackLaws.{answer_ok}
use Rattle.layers.specs.KeyedLayers.{keyed_layer}
use Rattle.layers.proofs.CallLaws.{keyed_in}
use Rattle.orders.proofs.outputs.Outputs.new.Goals as goal
use Rattle.orders.proofs.outputs.Outputs.new.Goals.{After-new}

made : (c : After-new) → c.new.result ≡ Ok (keyed_layer c.args.layer.number c.args.key)
made c =
    let j = c.args.layer in
    answer_ok _ _ (c.new.ensures ∙ keyed_in j.number c.args.key (omega (arith, j.below)))

pub unwrap-keyed-requires : goal.unwrap-keyed-requires
unwrap-keyed-requires c = ap is_ok (made (goal.at.unwrap-keyed-requires c).After-new)

pub invariant_of-result : goal.invariant_of-result
invariant_of-result c =
    let e = c.unwrap-keyed.ensures in
    let f = made (goal.at.invariant_of-result c).After-new in
    record { made = cc }
