-- `fields::texts::Text::write_tabbed` meets its contract.
-- Assumes nothing.
use Rattle.fields.specs.Printing.{tabbed}
use Rattle.fields.proofs.PutLaws.{put_then}
use Rattle.fields.proofs.texts.Text.write_tabbed.Goals as goal

pub returns-clause-puts : goal.returns-clause-puts
unfolding tabbed
returns-clause-puts c = put_then c.write_byte.ensures.puts c.write_number.ensures.puts
