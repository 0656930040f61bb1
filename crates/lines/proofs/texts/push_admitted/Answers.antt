-- `lines::texts::push_admitted` meets its contract.
-- Assumes nothing.
use mathlib.Core.Path.{◌∙◌}
use Rattle.fields.proofs.PutLaws.{first_then}
use Rattle.lines.specs.Replies.{reply_text}
use Rattle.lines.proofs.texts.push_admitted.Goals as goal

pub returns-in_default-clause-puts : goal.returns-in_default-clause-puts
unfolding reply_text
returns-in_default-clause-puts c = rw c.in_default.is c.push_bytes.ensures.puts

pub returns-clause-puts : goal.returns-clause-puts
unfolding reply_text
returns-clause-puts c =
    let a = c.push_bytes-2.ensures in
    let b = c.push_tabbed.ensures in
    let d = c.push_tabbed-2.ensures in
    let two = b.lent.1 ∙ a.lent.1 in
    rw c.in-Some.is (first_then _ _ (d.lent.1 ∙ two) (first_then _ _ two (first_then _ _ a.lent.1 a.puts b.puts) d.puts) c.push.ensures.puts)
