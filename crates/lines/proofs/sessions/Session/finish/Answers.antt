-- `lines::sessions::Session::finish` meets its contract.
-- Assumes nothing.
use mathlib.Core.Path.{◌∙◌}
use Rattle.lines.proofs.FeedLaws.{end_bare, end_held}
use Rattle.lines.proofs.sessions.Session.finish.Goals as goal

pub returns-then-self-eq0-clause-answer : goal.returns-then-self-eq0-clause-answer
returns-then-self-eq0-clause-answer c = end_bare _ c.args.line.now _ _ c.if-self-eq0.true

pub returns-clause-answer : goal.returns-clause-answer
returns-clause-answer c = c.feed.ensures.answer ∙ end_held _ c.args.line.now _ _ c.if-self-eq0.false
