-- The loop of `lines::texts::push_plan`.
-- Assumes nothing.
use lib.ListN.{take}
use Rattle.rounds.specs.Plans.{sheets}
use Rattle.lines.specs.Replies.{place_lines}
use Rattle.fields.specs.Texts.{SameList}
use Rattle.lines.proofs.ReplyLaws.{Listing}
use Rattle.lines.proofs.texts.push_plan.Given as goal

abbrev pub invariant-loop-place : goal.invariant-loop-place
invariant-loop-place l =
    record {
      lent : SameList l.initial.text l.text;
      listing : Listing goal.iterator-loop-place.next_gives (λ p. (p.0, (p.1.0.now, p.1.1.now))) l.place-iterator (place_lines 0 (sheets (take l.k l.locations) (take l.k l.terminals))) l.initial.text l.text;
    }
