-- `lines::commands::parse` meets its contract.
-- Assumes nothing.
use mathlib.Core.Path.{ap, ◌∙◌}
use Rattle.answers.specs.Refusals.{answer_of}
use Rattle.lines.specs.Commands.{parse_call}
use Rattle.lines.proofs.CommandLaws.{form_answer}
use Rattle.lines.proofs.commands.parse.Goals as goal

pub returns : goal.returns
unfolding parse_call
returns c = ap answer_of c.ok_or.ensures.value ∙ form_answer c.form.result ∙ c.form.ensures
