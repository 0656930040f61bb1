-- The loop of `lines::sessions::Session::take_lines`.
-- Assumes nothing.
use mathlib.Core.List.{[]}
use lib.ListN.{length, take}
use Rattle.lines.specs.Streams.{progress, world_of, SameLists}
use Rattle.fields.specs.Texts.{SameList}
use Rattle.lines.proofs.FeedLaws.{Going}
use Rattle.lines.proofs.sessions.Session.take_lines.Given as goal

abbrev pub invariant-loop-self : goal.invariant-loop-self
invariant-loop-self l =
    record {
      memory_lent : SameLists l.initial.memory l.memory;
      text_lent : SameList l.initial.text l.text;
      going : Going l.most (progress (world_of l.initial.self l.initial.memory) (take l.initial.self.held l.initial.line) []) l.piece l.initial.text.out.now (world_of l.self l.memory) l.line l.text.out.now l.self.held l.rest l.text.len;
    }

abbrev pub decreases-loop-self : goal.decreases-loop-self
decreases-loop-self l = length l.rest
