-- `lines::commands::with_three` meets its contract.
-- Assumes nothing.
use mathlib.Core.Path.{◌≡◌, ap, ◌∙◌}
use mathlib.Core.Bool.{not, true}
use Rattle.fields.specs.Lines.{alike}
use Rattle.lines.specs.Commands.{word_and_three, open_word}
use Rattle.lines.specs.InnerLines.{answer_of_form}
use Rattle.fields.proofs.AlikeLaws.{alike_ne}
use Rattle.lines.proofs.commands.with_three.Goals as goal
use Rattle.lines.proofs.commands.with_three.Goals.{Else-ne}

pub returns-then-ne : goal.returns-then-ne
unfolding word_and_three
returns-then-ne c = rw (alike_ne c.args.word.now _ open_word _ c.ne.ensures c.as_slice.ensures ∙ ap not c.if-ne.true)

-- it is open
is_open : (c : Else-ne) → alike c.args.word.now open_word ≡ true
is_open c = alike_ne c.args.word.now _ open_word _ c.ne.ensures c.as_slice.ensures ∙ ap not c.if-ne.false

pub returns-in_err-key : goal.returns-in_err-key
unfolding word_and_three
returns-in_err-key c = rw (is_open (goal.at.returns-in_err-key c).Else-ne, ← c.in_err-key.ensures) (ap answer_of_form c.from_residual.ensures)

pub returns-in_err-k : goal.returns-in_err-k
unfolding word_and_three
returns-in_err-k c = rw (is_open (goal.at.returns-in_err-k c).Else-ne, ← c.in_ok-key.ensures, ← c.in_err-k.ensures) (ap answer_of_form c.from_residual-in_err-k.ensures)

pub returns-in_err-n : goal.returns-in_err-n
unfolding word_and_three
returns-in_err-n c = rw (is_open (goal.at.returns-in_err-n c).Else-ne, ← c.in_ok-key.ensures, ← c.in_ok-k.ensures, ← c.in_err-n.ensures) (ap answer_of_form c.from_residual-in_err-n.ensures)

pub returns : goal.returns
unfolding word_and_three
returns c = rw (is_open (goal.at.returns c).Else-ne, ← c.in_ok-key.ensures, ← c.in_ok-k.ensures, ← c.in_ok-n.ensures)
