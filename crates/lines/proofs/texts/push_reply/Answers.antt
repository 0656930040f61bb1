-- `lines::texts::push_reply` meets its contract.
-- Assumes nothing.
use Rattle.fields.proofs.PutLaws.{whole_first}
use Rattle.lines.specs.Replies.{text_of}
use native.Mathlib.Omega.{arith}
use Rattle.lines.proofs.ReplyLaws.{length_answer, length_refused}
use Rattle.lines.proofs.texts.push_reply.Goals as goal

pub returns-in-Ok-clause-puts : goal.returns-in-Ok-clause-puts
unfolding text_of
returns-in-Ok-clause-puts c =
    let a = c.args in
    rw c.in-Ok.is (whole_first (omega (arith, c.requires, length_answer c.in-Ok.answer a.locations.now a.terminals.now)) c.push_answer.ensures.puts)

pub returns-in-Err-clause-puts : goal.returns-in-Err-clause-puts
unfolding text_of
returns-in-Err-clause-puts c =
    rw (c.in-Err.is, ← c.number.ensures) (whole_first (omega (arith, c.requires, length_refused c.number.result)) c.push_one.ensures.puts)
