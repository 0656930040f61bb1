-- `lines::commands::with_one` meets its contract.
-- Assumes nothing.
use mathlib.Core.Path.{ap, ◌∙◌}
use mathlib.Core.Bool.{not}
use Rattle.lines.specs.Commands.{word_and_one, withdraw_word}
use Rattle.lines.specs.InnerLines.{answer_of_form}
use Rattle.fields.proofs.AlikeLaws.{alike_ne}
use Rattle.lines.proofs.commands.with_one.Goals as goal

pub returns-then-ne : goal.returns-then-ne
unfolding word_and_one
returns-then-ne c = rw (alike_ne c.args.word.now _ withdraw_word _ c.ne.ensures c.as_slice.ensures ∙ ap not c.if-ne.true)

pub returns-in_err-slot : goal.returns-in_err-slot
unfolding word_and_one
returns-in_err-slot c =
    rw (alike_ne c.args.word.now _ withdraw_word _ c.ne.ensures c.as_slice.ensures ∙ ap not c.if-ne.false, ← c.in_err-slot.ensures) (ap answer_of_form c.from_residual.ensures)

pub returns : goal.returns
unfolding word_and_one
returns c = rw (alike_ne c.args.word.now _ withdraw_word _ c.ne.ensures c.as_slice.ensures ∙ ap not c.if-ne.false, ← c.in_ok-slot.ensures)
