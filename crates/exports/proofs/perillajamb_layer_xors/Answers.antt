-- `exports::perillajamb_layer_xors` meets its contract.
-- Assumes nothing.
use Rattle.std.proofs.Common.{sym, ap, ◌∙◌, arith}
use Rattle.answers.specs.Refusals.{answer_of}
use Rattle.exports.specs.Coded.{layer_xors}
use Rattle.exports.proofs.XorLaws.{made, too_many, not_made}
use Rattle.exports.proofs.perillajamb_layer_xors.Goals as goal

pub returns-in-Ok : goal.returns-in-Ok
unfolding layer_xors
returns-in-Ok c =
    made _ _ _ _ _ _ (sym c.new.ensures ∙ ap answer_of c.in-Ok.is) (omega arith) (λ h e w. c.xor_outputs.ensures _ _ h e)

pub returns-in-Ok-2 : goal.returns-in-Ok-2
unfolding layer_xors
returns-in-Ok-2 c =
    c.refused.ensures ∙ too_many _ _ _ _ _ (sym c.new.ensures ∙ ap answer_of c.in-Ok.is) (omega arith)

pub returns-in-Err : goal.returns-in-Err
unfolding layer_xors
returns-in-Err c = c.refused-in-Err.ensures ∙ not_made _ _ _ _ _ (sym c.new.ensures ∙ ap answer_of c.in-Err.is)
