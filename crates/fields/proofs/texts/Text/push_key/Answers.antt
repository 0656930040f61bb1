-- `fields::texts::Text::push_key` meets its contract.
-- Assumes nothing.
use Rattle.fields.specs.Printing.{key_text}
use Rattle.fields.proofs.texts.Text.push_key.Goals as goal

pub returns-clause-puts : goal.returns-clause-puts
unfolding key_text
returns-clause-puts c = rw (← c.spell_key.ensures) c.push_bytes.ensures.puts
