-- What private functions promise of lines and texts. No public promise cites this file.
-- Assumes nothing.
use Rattle.std.specs.Prelude.{List, ℕ, take, Option, Some, None, Result, Ok, Err}
use Rattle.answers.specs.Refusals.{number}
use Rattle.answers.specs.declared.Refusal.{Refusal}
use Rattle.orders.specs.declared.consistent_reservoir.Exchange.{Exchange}
use Rattle.answers.specs.Answers.{Answer, refusal, result}
use Rattle.lines.specs.declared.commands.Command.{Command}
use Rattle.rounds.specs.Plans.{sheets}
use Rattle.lines.specs.Replies.{Reply, opened, admitted, nothing, joined, withdrawn, planned}
use Rattle.lines.specs.declared.texts.Accepted.{Accepted}
use Rattle.lines.specs.declared.texts.Accepted.TheVariants as accepted

-- ---- a line taken apart

-- what a form says of a line: refusal 12 where the line has another
abbrev pub answer_of_form : Option Command → Answer Command
answer_of_form (Some c) = result c
answer_of_form None = refusal 12

-- ---- an answer as code has it

-- "the location in and the one out, or the word none alone"
abbrev pub admitted_reply : Option Exchange → Reply
admitted_reply (Some e) = admitted e.enters e.leaves
admitted_reply None = nothing

-- of a plan the first k places of its two lists
abbrev pub accepted_reply : Accepted → List ℕ → List ℕ → Reply
accepted_reply accepted.Opened ls ts = opened
accepted_reply (accepted.Admitted e) ls ts = admitted_reply e
accepted_reply (accepted.Joined s) ls ts = joined s
accepted_reply (accepted.Withdrawn s) ls ts = withdrawn s
accepted_reply (accepted.Planned k) ls ts = planned (sheets (take k ls) (take k ts))

-- or a refusal by its number
abbrev pub reply_of : Result Accepted Refusal → List ℕ → List ℕ → Answer Reply
reply_of (Ok a) ls ts = result (accepted_reply a ls ts)
reply_of (Err why) ls ts = refusal (number why)
