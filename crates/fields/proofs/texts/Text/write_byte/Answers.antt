-- `fields::texts::Text::write_byte` meets its contract.
-- Assumes nothing.
use native.Mathlib.Omega.{arith}
use Rattle.fields.proofs.PutLaws.{put_byte}
use Rattle.fields.proofs.texts.Text.write_byte.Goals as goal

pub returns-clause-puts : goal.returns-clause-puts
returns-clause-puts c = put_byte _ _ _ (omega arith)
