-- `stocktake::step` meets its contract.
-- Assumes nothing.
use Rattle.std.proofs.Common.{◌<◌, [], length, take, arith, sym, length-take-le}
use borrow.Author.Tests.{eqb-false}
use Rattle.lines.specs.Streams.{world_of}
use Rattle.stocktake.specs.Pieces.{stands}
use Rattle.stocktake.proofs.PieceLaws.{Stepped, step_written, feed_accepted, finish_accepted, feed_took, feed_stepped, finish_stepped}
use Rattle.stocktake.proofs.step.Given.{Over}
use Rattle.stocktake.proofs.step.Goals as goal
use Rattle.stocktake.proofs.step.Goals.{In-Ok, In-Ok-feed}

pub unreachable-requires : goal.unreachable-requires
unreachable-requires g c = finish_accepted _ _ _ _ c.requires c.in_default.field-0 c.finish.new.self _ _ _ c.in_default.ensures.answer

pub unreachable-requires-in_default-feed : goal.unreachable-requires-in_default-feed
unreachable-requires-in_default-feed g c = feed_accepted _ _ _ _ c.requires _ c.in_default-feed.field-0 c.feed.new.self _ _ _ c.in_default-feed.ensures.answer

-- the end
ended : (g : Over) (c : In-Ok g) → Stepped (stands c.args.session.now c.args.line.now c.args.memory.now) [] c.finish.new.self.held c.finish.new.line
    (world_of c.finish.new.self c.finish.new.memory) c.finish.new.out c.in-Ok.end.put
ended g c =
    finish_stepped _ _ _ _ c.requires c.in-Ok.end c.finish.new.self _ _ _ c.in-Ok.ensures.buffers_after.0 (omega (arith, c.finish.ensures.lent)) c.finish.auto.out
    c.in-Ok.ensures.answer

-- bytes
went : (g : Over) (c : In-Ok-feed g) → Stepped (stands c.args.session.now c.args.line.now c.args.memory.now) (take c.in-Ok-feed.part.taken c.args.bytes.now)
    c.feed.new.self.held c.feed.new.line (world_of c.feed.new.self c.feed.new.memory) c.feed.new.out c.in-Ok-feed.part.put
went g c =
    let some : 0 < length c.args.bytes.now = omega (arith, eqb-false (length c.args.bytes.now) 0 (sym c.if-is_empty.ensures)) in
    feed_stepped _ _ _ _ c.requires c.in-Ok-feed.part c.feed.new.self _ _ _ c.in-Ok-feed.ensures.buffers_after.0 (omega (arith, c.feed.ensures.lent)) c.feed.auto.out
    _ some c.in-Ok-feed.ensures.answer

pub slice_bounds-show-end : goal.slice_bounds-show-end
slice_bounds-show-end g c = omega (arith, (ended g (goal.at.slice_bounds-show-end g c).In-Ok).within)

pub slice_bounds-show-end-then-is_empty : goal.slice_bounds-show-end-then-is_empty
slice_bounds-show-end-then-is_empty g c = sym (length-take-le _ _ (omega (arith, (ended g (goal.at.slice_bounds-show-end-then-is_empty g c).In-Ok).within)))

pub returns-in_err-show-clause-fits : goal.returns-in_err-show-clause-fits
returns-in_err-show-clause-fits g c = (ended g (goal.at.returns-in_err-show-clause-fits g c).In-Ok).fits

pub returns-then-is_empty-clause-fits : goal.returns-then-is_empty-clause-fits
returns-then-is_empty-clause-fits g c = (ended g (goal.at.returns-then-is_empty-clause-fits g c).In-Ok).fits

pub returns-then-is_empty-clause-written : goal.returns-then-is_empty-clause-written
returns-then-is_empty-clause-written g c = step_written (ended g (goal.at.returns-then-is_empty-clause-written g c).In-Ok) _ _ c.in_ok-show.ensures

pub slice_bounds-show-end-2 : goal.slice_bounds-show-end-2
slice_bounds-show-end-2 g c = omega (arith, (went g (goal.at.slice_bounds-show-end-2 g c).In-Ok-feed).within)

pub slice_bounds-show-end-3 : goal.slice_bounds-show-end-3
slice_bounds-show-end-3 g c = sym (length-take-le _ _ (omega (arith, (went g (goal.at.slice_bounds-show-end-3 g c).In-Ok-feed).within)))

pub returns-in_err-show-2-clause-fits : goal.returns-in_err-show-2-clause-fits
returns-in_err-show-2-clause-fits g c = (went g (goal.at.returns-in_err-show-2-clause-fits g c).In-Ok-feed).fits

pub returns-clause-fits : goal.returns-clause-fits
returns-clause-fits g c = (went g (goal.at.returns-clause-fits g c).In-Ok-feed).fits

pub returns-clause-within : goal.returns-clause-within
returns-clause-within g c = (feed_took _ _ _ _ c.requires c.in-Ok-feed.part c.feed.new.self _ _ _ _ c.in-Ok-feed.ensures.answer).0

pub returns-clause-some : goal.returns-clause-some
returns-clause-some g c = (feed_took _ _ _ _ c.requires c.in-Ok-feed.part c.feed.new.self _ _ _ _ c.in-Ok-feed.ensures.answer).1

pub returns-clause-written : goal.returns-clause-written
returns-clause-written g c = step_written (went g (goal.at.returns-clause-written g c).In-Ok-feed) _ _ c.in_ok-show-2.ensures
