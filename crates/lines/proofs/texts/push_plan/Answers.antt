-- `lines::texts::push_plan` meets its contract.
-- Assumes nothing.
use mathlib.Core.Path.{refl, ◌∙◌}
use native.Mathlib.Omega.{arith}
use Rattle.std.proofs.lemmas.Iterator.{YieldsList-from_zip, YieldsList-from_range, YieldsList-from_slice}
use Rattle.std.proofs.lemmas.Iterator.Consumers.{YieldsList-at}
use Rattle.lines.proofs.ReplyLaws.{lines_zip, listing_start, listing_more, listing_end}
use Rattle.lines.proofs.texts.push_plan.Goals as goal

pub loop-place-init : goal.loop-place-init
loop-place-init c =
    let a = c.args in
    let inner = c.zip.ensures in
    let outer = c.zip-place-items.ensures in
    let yields =
    YieldsList-at c.into_iter-place-iterator.ensures.into_iter_gives
    (YieldsList-from_zip (YieldsList-at outer.first (YieldsList-from_range 0 a.k a.k refl (omega arith)))
    (YieldsList-at outer.second (YieldsList-from_zip (YieldsList-at inner.first (YieldsList-from_slice a.locations.now c.iter.ensures.rest)) (YieldsList-from_slice {s = c.zip.result.b} a.terminals.now inner.second.0)))) in
    record {
      lent = (refl, refl);
      listing = listing_start _ _ _ yields (lines_zip 0 a.k a.locations.now a.terminals.now);
    }

pub loop-place-preserved : goal.loop-place-preserved
loop-place-preserved c =
    let l = c.loop-place in
    let e = c.push_place.ensures in
    record {
      lent = (e.lent.0 ∙ l.invariant.lent.0, e.lent.1 ∙ l.invariant.lent.1);
      listing = listing_more _ _ _ l.invariant.listing (c.in-Some.place, (c.in-Some.location, c.in-Some.slot)) c.next.new.self c.push_place.new.text c.in-Some.ensures.steps l.invariant.lent.1 e.puts;
    }

pub returns-clause-puts : goal.returns-clause-puts
returns-clause-puts c = listing_end _ _ _ c.loop-place.invariant.listing c.next.new.self c.in-None.ensures.steps
