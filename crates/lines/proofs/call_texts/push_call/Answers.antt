-- `lines::call_texts::push_call` meets its contract.
-- Assumes nothing.
use mathlib.Core.Path.{◌∙◌}
use Rattle.fields.proofs.PutLaws.{first_then}
use Rattle.lines.specs.CallTexts.{call_text, call_line}
use Rattle.lines.proofs.call_texts.push_call.Goals as goal

pub returns-in-Open-clause-puts : goal.returns-in-Open-clause-puts
unfolding call_line call_text
returns-in-Open-clause-puts c =
    let a = c.push_bytes.ensures in
    let b = c.push_key.ensures in
    let k = c.push_tabbed.ensures in
    let n = c.push_tabbed-in-Open.ensures in
    let two = b.lent.1 ∙ a.lent.1 in
    let three = k.lent.1 ∙ two in
    rw c.in-Open.is
    (first_then _ _ (n.lent.1 ∙ three) (first_then _ _ three (first_then _ _ two (first_then _ _ a.lent.1 a.puts b.puts) k.puts) n.puts) c.push.ensures.puts)

pub returns-in-Admit-clause-puts : goal.returns-in-Admit-clause-puts
unfolding call_line call_text
returns-in-Admit-clause-puts c = rw c.in-Admit.is c.push_bytes-in-Admit.ensures.puts

pub returns-in-Join-clause-puts : goal.returns-in-Join-clause-puts
unfolding call_line call_text
returns-in-Join-clause-puts c = rw c.in-Join.is c.push_bytes-in-Join.ensures.puts

pub returns-in-Withdraw-clause-puts : goal.returns-in-Withdraw-clause-puts
unfolding call_line call_text
returns-in-Withdraw-clause-puts c = rw c.in-Withdraw.is c.push_one.ensures.puts

pub returns-in-Plan-clause-puts : goal.returns-in-Plan-clause-puts
unfolding call_line call_text
returns-in-Plan-clause-puts c = rw c.in-Plan.is c.push_bytes-in-Plan.ensures.puts
