-- `fields::texts::Text::cut_three` meets its contract.
-- Assumes nothing.
use mathlib.Core.Path.{◌∙◌}
use Rattle.fields.proofs.PutLaws.{first_then}
use Rattle.fields.proofs.texts.Text.cut_three.Goals as goal

pub returns-clause-puts : goal.returns-clause-puts
returns-clause-puts c =
    let a = c.push_number.ensures in
    let b = c.push_tabbed.ensures in
    let d = c.push_tabbed-2.ensures in
    let two = b.lent.1 ∙ a.lent.1 in
    first_then _ _ (d.lent.1 ∙ two) (first_then _ _ two (first_then _ _ a.lent.1 a.puts b.puts) d.puts) c.push.ensures.puts
