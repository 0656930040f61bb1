-- `fields::texts::Text::push_number` meets its contract.
-- Assumes nothing.
use native.Mathlib.Omega.{arith}
use Rattle.fields.proofs.DecimalLaws.{length_decimal}
use Rattle.fields.proofs.PutLaws.{first_whole}
use Rattle.fields.proofs.texts.Text.push_number.Goals as goal

pub returns-clause-puts : goal.returns-clause-puts
returns-clause-puts c = first_whole (omega (arith, length_decimal c.args.n)) c.write_number.ensures.puts
