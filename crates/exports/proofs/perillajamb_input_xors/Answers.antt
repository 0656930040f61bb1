-- `exports::perillajamb_input_xors` meets its contract.
-- Assumes nothing.
use Rattle.std.proofs.Common.{sym, ap, ◌∙◌, arith}
use Rattle.answers.specs.Refusals.{answer_of}
use Rattle.exports.specs.Coded.{input_xors}
use Rattle.exports.proofs.XorLaws.{made, too_many, not_made}
use Rattle.exports.proofs.perillajamb_input_xors.Goals as goal

pub returns-in-Ok : goal.returns-in-Ok
unfolding input_xors
returns-in-Ok c =
    made _ _ _ _ _ _ (sym c.new.ensures ∙ ap answer_of c.in-Ok.is) (omega arith) (c.xor_inputs.ensures _ _)

pub returns-in-Ok-2 : goal.returns-in-Ok-2
unfolding input_xors
returns-in-Ok-2 c =
    c.refused.ensures ∙ too_many _ _ _ _ _ (sym c.new.ensures ∙ ap answer_of c.in-Ok.is) (omega arith)

pub returns-in-Err : goal.returns-in-Err
unfolding input_xors
returns-in-Err c = c.refused-in-Err.ensures ∙ not_made _ _ _ _ _ (sym c.new.ensures ∙ ap answer_of c.in-Err.is)
