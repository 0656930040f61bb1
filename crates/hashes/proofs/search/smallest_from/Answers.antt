-- `hashes::search::smallest_from` meets its contract.
-- Assumes nothing.
use Rattle.std.proofs.Common.{◌≡◌, sym, ap, ◌∙◌, arith}
use Rattle.hashes.specs.Next.{smallest_from}
use Rattle.hashes.specs.InnerBuckets.{place_of}
use Rattle.hashes.proofs.NextLaws.{up_low, up_skip, from_buckets, from_zero, turn_found, turn_missed}
use Rattle.hashes.proofs.search.smallest_from.Goals as goal

pub returns-then-m-eq0 : goal.returns-then-m-eq0
returns-then-m-eq0 c =
    let a = c.args in
    let e : a.m ≡ 0 = c.if-m-eq0.true in
    sym (ap (smallest_from a.state) e ∙ from_zero a.state)

pub loop-next-init : goal.loop-next-init
loop-next-init c =
    let a = c.args in
    let t = c.next_set-next.ensures in
    (omega arith, t.to, up_skip a.state a.m _ _ t ∙ up_low a.state a.m _ c.highest.ensures.0, t.set)

pub returns-in-Some-least_in : goal.returns-in-Some-least_in
returns-in-Some-least_in c =
    let a = c.args in
    let b = c.in-Some.bucket in
    let i = rw c.in-Some.is at c.loop-next.invariant in
    turn_found a.state a.m b.place i.2 (i.3 b.in_range) _ i.0 b.in_range (rw c.in-Some-least_in.is at c.least_in.ensures)

pub loop-next-smaller : goal.loop-next-smaller
loop-next-smaller c =
    let t = rw c.next_place.ensures at c.next_set-next-in-Some.ensures in
    let e : place_of c.loop-next.next ≡ c.in-Some.bucket.place = ap place_of c.in-Some.is in
    omega (arith, t.from, t.to, e, c.in-Some.bucket.in_range)

pub loop-next-preserved : goal.loop-next-preserved
loop-next-preserved c =
    let a = c.args in
    let b = c.in-Some.bucket in
    let i = rw c.in-Some.is at c.loop-next.invariant in
    let t = rw c.next_place.ensures at c.next_set-next-in-Some.ensures in
    (i.0, t.to, up_skip a.state a.m _ _ t ∙ turn_missed a.state a.m b.place i.2 (i.3 b.in_range) (rw c.in_default-least_in.is at c.least_in.ensures), t.set)

pub returns : goal.returns
returns c =
    let a = c.args in
    let i = rw c.in_default.is at c.loop-next.invariant in
    sym (from_buckets a.state a.m i.0 ∙ i.2)
