-- `fields::texts::Text::push` meets its contract.
-- Assumes nothing.
use native.Mathlib.Omega.{arith}
use Rattle.fields.proofs.PutLaws.{first_whole, first_full}
use Rattle.fields.proofs.texts.Text.push.Goals as goal

pub returns-then-self-clause-puts : goal.returns-then-self-clause-puts
returns-then-self-clause-puts c = first_whole (omega arith) c.write_byte.ensures.puts

pub returns-else-self-clause-puts : goal.returns-else-self-clause-puts
returns-else-self-clause-puts c = first_full _ _ _ (omega arith) (omega arith)
