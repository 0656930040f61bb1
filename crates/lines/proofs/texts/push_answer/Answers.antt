-- `lines::texts::push_answer` meets its contract.
-- Assumes nothing.
use Rattle.lines.specs.Replies.{reply_text}
use Rattle.lines.proofs.texts.push_answer.Goals as goal

pub returns-in-Opened-clause-puts : goal.returns-in-Opened-clause-puts
unfolding reply_text
returns-in-Opened-clause-puts c = rw c.in-Opened.is c.push_bytes.ensures.puts

pub returns-in-Joined-clause-puts : goal.returns-in-Joined-clause-puts
unfolding reply_text
returns-in-Joined-clause-puts c = rw c.in-Joined.is c.push_one.ensures.puts

pub returns-in-Withdrawn-clause-puts : goal.returns-in-Withdrawn-clause-puts
unfolding reply_text
returns-in-Withdrawn-clause-puts c = rw c.in-Withdrawn.is c.push_one-in-Withdrawn.ensures.puts

pub returns-in-Planned-clause-puts : goal.returns-in-Planned-clause-puts
unfolding reply_text
returns-in-Planned-clause-puts c = rw c.in-Planned.is c.push_plan.ensures.puts
