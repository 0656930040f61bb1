-- `lines::texts::push_place` meets its contract.
-- Assumes nothing.
use Rattle.lines.specs.Replies.{place_line}
use Rattle.lines.proofs.texts.push_place.Goals as goal

pub returns-clause-puts : goal.returns-clause-puts
unfolding place_line
returns-clause-puts c = c.push_three.ensures.puts
