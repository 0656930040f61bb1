-- `fields::texts::Text::write` meets its contract.
-- Assumes nothing.
use native.Mathlib.Omega.{arith}
use Rattle.fields.proofs.PutLaws.{put_places}
use Rattle.fields.proofs.texts.Text.write.Goals as goal

pub returns-clause-puts : goal.returns-clause-puts
returns-clause-puts c = put_places _ _ _ _ _ _ c.requires (omega arith) (omega arith) c.copy_from_slice.ensures.after
