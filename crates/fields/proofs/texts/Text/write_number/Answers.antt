-- `fields::texts::Text::write_number` meets its contract.
-- Assumes nothing.
use native.Mathlib.Omega.{arith}
use Rattle.fields.proofs.PutLaws.{put_places}
use Rattle.fields.proofs.texts.Text.write_number.Goals as goal

pub returns-clause-puts : goal.returns-clause-puts
returns-clause-puts c =
    let n = c.digits.ensures.count in
    put_places _ _ _ _ _ _ (omega (arith, c.requires, c.digits.ensures.few)) (omega (arith, n)) (omega (arith, n)) c.spell.ensures
