-- `fields::texts::Text::cut_one` meets its contract.
-- Assumes nothing.
use mathlib.Core.Path.{◌∙◌}
use Rattle.fields.proofs.PutLaws.{first_then}
use Rattle.fields.proofs.texts.Text.cut_one.Goals as goal

pub returns-clause-puts : goal.returns-clause-puts
returns-clause-puts c =
    let a = c.push_bytes.ensures in
    let b = c.push_tabbed.ensures in
    first_then _ _ (b.lent.1 ∙ a.lent.1) (first_then _ _ a.lent.1 a.puts b.puts) c.push.ensures.puts
