-- `fields::texts::Text::push_tabbed` meets its contract.
-- Assumes nothing.
use Rattle.fields.specs.Printing.{tabbed}
use Rattle.fields.proofs.PutLaws.{first_then}
use Rattle.fields.proofs.texts.Text.push_tabbed.Goals as goal

pub returns-clause-puts : goal.returns-clause-puts
unfolding tabbed
returns-clause-puts c = first_then _ _ c.push.ensures.lent.1 c.push.ensures.puts c.push_number.ensures.puts
