-- `rounds::round::deal` meets its contract.
-- Assumes nothing.
use Rattle.std.proofs.Common.{arith, length-append, ◌∷◌, []}
use Rattle.std.specs.List.{enumerate_from}
use Rattle.std.proofs.lemmas.Iterator.{YieldsList}
use Rattle.std.proofs.lemmas.Iterator.Consumers.{YieldsList-at, YieldsList-from_first, YieldsList-from_enumerate}
use Rattle.orders.specs.ReservoirCalls.{sample}
use Rattle.rounds.specs.Rounds.{reservoir_of}
use Rattle.rounds.specs.InnerRounds.{still_sampled}
use Rattle.rounds.proofs.DealLaws.{slot_lent, dealt_start, dealt_more, dealt_end, numbered_turn, numbered_end}
use Rattle.rounds.proofs.round.deal.Given as given
use Rattle.rounds.proofs.round.deal.Goals as goal
use Rattle.rounds.proofs.round.deal.Goals.{After-into_iter-place-iterator}

-- what the chain yields: the sample, each number with its place
yields : (c : After-into_iter-place-iterator) → YieldsList given.iterator-loop-place.next_gives (λ p. p) c.into_iter-place-iterator.result (enumerate_from 0 (sample (reservoir_of c.args.r) c.args.list.now))
yields c =
    YieldsList-at c.into_iter-place-iterator.ensures.into_iter_gives
    (YieldsList-from_enumerate (YieldsList-at c.enumerate-place-items.ensures.source (YieldsList-from_first (λ x. x) still_sampled _ c.new.ensures)) c.enumerate-place-items.ensures.count)

pub loop-place-init : goal.loop-place-init
loop-place-init c = dealt_start _ _ _ _

pub bounds-locations-place : goal.bounds-locations-place
bounds-locations-place c =
    let l = c.loop-place in
    let at = numbered_turn _ (yields (goal.at.bounds-locations-place c).After-into_iter-place-iterator) l.yielded _ l.yielded_by c.next.new.self c.in-Some.place c.in-Some.x c.in-Some.ensures.steps in
    omega (arith, at.0, at.1, l.auto.locations, c.requires.1)

pub bounds-terminals-place : goal.bounds-terminals-place
bounds-terminals-place c =
    let l = c.loop-place in
    let at = numbered_turn _ (yields (goal.at.bounds-terminals-place c).After-into_iter-place-iterator) l.yielded _ l.yielded_by c.next.new.self c.in-Some.place c.in-Some.x c.in-Some.ensures.steps in
    omega (arith, at.0, at.1, l.auto.terminals, c.requires.2)

pub loop-place-preserved : goal.loop-place-preserved
loop-place-preserved c =
    let l = c.loop-place in
    let at = numbered_turn _ (yields (goal.at.loop-place-preserved c).After-into_iter-place-iterator) l.yielded _ l.yielded_by c.next.new.self c.in-Some.place c.in-Some.x c.in-Some.ensures.steps in
    rw (length-append l.yielded ((c.in-Some.place, c.in-Some.x) ∷ [])) (dealt_more _ _ _ _ _ _ _ l.invariant at.0 c.requires.1 c.requires.2 _ _ _ at.1 at.2 (slot_lent _ _ _ _ _ _ _ c.terminal.ensures l.auto.scratch))

pub returns-clause-locations_after : goal.returns-clause-locations_after
returns-clause-locations_after c =
    let l = c.loop-place in
    let at = numbered_end _ (yields (goal.at.returns-clause-locations_after c).After-into_iter-place-iterator) l.yielded _ l.yielded_by c.next.new.self c.in-None.ensures.steps in
    (dealt_end _ _ _ _ _ _ _ l.invariant at).0

pub returns-clause-terminals_after : goal.returns-clause-terminals_after
returns-clause-terminals_after c =
    let l = c.loop-place in
    let at = numbered_end _ (yields (goal.at.returns-clause-terminals_after c).After-into_iter-place-iterator) l.yielded _ l.yielded_by c.next.new.self c.in-None.ensures.steps in
    (dealt_end _ _ _ _ _ _ _ l.invariant at).1
