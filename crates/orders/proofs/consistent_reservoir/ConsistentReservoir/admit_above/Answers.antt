-- `orders::consistent_reservoir::ConsistentReservoir::admit_above` meets its contract.
-- Assumes nothing.
use mathlib.Core.Path.{◌≡◌}
use mathlib.Core.Bool.{true}
use Prim.Native.Nat.{◌+◌, ◌-◌, ◌≤◌}
use native.Mathlib.Omega.{arith}
use Rattle.std.specs.Prelude.{Some}
use lib.ListN.{length, take}
use lib.Seq.{length-take-le}
use Rattle.lists.specs.Lists.{standing}
use Rattle.orders.specs.Reservoirs.{counts, outputs}
use Rattle.orders.specs.ReservoirCalls.{key_of, j_of, fitting}
use Rattle.orders.specs.InnerPasses.{wide_of}
use Rattle.orders.proofs.CoverLaws.{laid_over}
use Rattle.orders.proofs.AdmitLaws.{above_low, above_pos, above_fit, above_more, above_v, above_k, end_le, end_rank, above_refused, above_done}
use Rattle.orders.proofs.consistent_reservoir.ConsistentReservoir.admit_above.Goals as goal
use Rattle.orders.proofs.consistent_reservoir.ConsistentReservoir.admit_above.Goals.{Start, After-standing-end, Else-list-end}

asked : (c : Start) → (fitting c.args.self.now c.args.list.now ≡ true)
    × (c.args.self.now.used ≤ c.args.self.now.k)
    × (Some c.args.w ≡ wide_of (key_of c.args.self.now) c.args.self.now.k (j_of c.args.self.now))
asked c = (c.requires.fit, c.requires.full, c.requires.wide)

end_is : (c : After-standing-end)
    → c.standing-end.result ≡ standing (counts (c.args.w.low + 1)) c.args.self.now.k (outputs (key_of c.args.self.now) c.args.w.layer) (c.args.w.inputs - 1)
end_is c =
    let e = c.new-outputs.ensures in
    rw (e.layer, e.key) at c.standing-end.ensures

room : (c : Else-list-end) → length (take c.standing-end.result c.args.list.now) ≡ c.standing-end.result
room c = length-take-le _ c.args.list.now c.if-list-end.false

pub invariant_of-new : goal.invariant_of-new
invariant_of-new c = record { below = above_low _ _ _ (asked (goal.at.invariant_of-new c).Start) }

pub overflow_sub-last : goal.overflow_sub-last
overflow_sub-last c = omega (arith, (above_k _ _ _ (asked (goal.at.overflow_sub-last c).Start)).0)

pub overflow_sub-w : goal.overflow_sub-w
overflow_sub-w c = above_pos _ _ _ (asked (goal.at.overflow_sub-w c).Start)

pub standing-end-requires-clause-few : goal.standing-end-requires-clause-few
standing-end-requires-clause-few c = omega (arith, above_more _ _ _ (asked (goal.at.standing-end-requires-clause-few c).Start))

pub standing-end-requires-clause-fit : goal.standing-end-requires-clause-fit
standing-end-requires-clause-fit c =
    rw c.new-outputs.ensures.layer (above_fit _ _ _ (asked (goal.at.standing-end-requires-clause-fit c).Start))

pub returns-then-list-end : goal.returns-then-list-end
returns-then-list-end c =
    above_refused _ _ _ (asked (goal.at.returns-then-list-end c).Start) _ (end_is (goal.at.returns-then-list-end c).After-standing-end) c.if-list-end.true

pub bounds-list-last : goal.bounds-list-last
bounds-list-last c = omega (arith, above_k _ _ _ (asked (goal.at.bounds-list-last c).Start))

pub cover-requires-clause-size : goal.cover-requires-clause-size
cover-requires-clause-size c =
    let p = asked (goal.at.cover-requires-clause-size c).Start in
    let e = c.new-outputs.ensures in
    rw e.layer (omega (arith, room (goal.at.cover-requires-clause-size c).Else-list-end, end_le _ _ _ p _ (end_is (goal.at.cover-requires-clause-size c).After-standing-end), above_fit _ _ _ p))

pub cover-requires-clause-rank : goal.cover-requires-clause-rank
cover-requires-clause-rank c =
    let e = c.new-outputs.ensures in
    rw (room (goal.at.cover-requires-clause-rank c).Else-list-end, e.layer, e.key) (end_rank _ _ _ (asked (goal.at.cover-requires-clause-rank c).Start) _ (end_is (goal.at.cover-requires-clause-rank c).After-standing-end))

pub overflow_add-self : goal.overflow_add-self
overflow_add-self c = omega (arith, above_v _ _ _ (asked (goal.at.overflow_add-self c).Start))

pub returns : goal.returns
returns c =
    let e = c.new-outputs.ensures in
    let fill = rw (e.layer, e.key) at c.cover.ensures in
    rw (fill, laid_over _ _ _ c.args.list.now c.if-list-end.false) (above_done _ _ _ (asked (goal.at.returns c).Start) _ (end_is (goal.at.returns c).After-standing-end) c.if-list-end.false)
