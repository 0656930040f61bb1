-- `rounds::round::plan` meets its contract.
-- Assumes nothing.
use Rattle.std.proofs.Common.{◌≤◌, min, length, arith}
use Rattle.std.proofs.lemmas.Result.{err_from_is_err_and}
use Rattle.choosers.specs.SlotCalls.{slot_limit}
use Rattle.rounds.proofs.PlanCodeLaws.{Ready, is_ready, is_unfit, plan_unfit, few_locations, few_terminals, few_places, deal_room, plan_none, plan_done}
use Rattle.rounds.proofs.round.plan.Goals as goal
use Rattle.rounds.proofs.round.plan.Goals.{In_ok-idle, Else-scratch-scratch_places}

-- the record fits, and what idle says
ready : (c : In_ok-idle) → Ready c.args.r c.args.list.now c.args.table.now c.in_ok-idle.idle
ready c = is_ready c.args.r _ _ _ c.is_idle.ensures _ c.in_ok-idle.was

-- the scratch is long enough
enough : (c : Else-scratch-scratch_places) → min (length c.args.table.now) slot_limit ≤ length c.args.scratch.now
enough c = omega (arith, c.scratch_places.ensures)

pub returns-in_err-idle-clause-answer : goal.returns-in_err-idle-clause-answer
returns-in_err-idle-clause-answer c =
    let p = err_from_is_err_and c.from_residual.result c.from_residual.ensures.1 in
    rw (p.1, p.2) (plan_unfit _ _ _ _ _ _ _ (is_unfit c.args.r _ _ _ c.is_idle.ensures _ c.in_err-idle.was))

pub returns-then-locations-k-clause-answer : goal.returns-then-locations-k-clause-answer
returns-then-locations-k-clause-answer c = few_locations _ _ _ _ _ _ _ (ready (goal.at.returns-then-locations-k-clause-answer c).In_ok-idle) c.if-locations-k.true

pub returns-then-terminals-k-clause-answer : goal.returns-then-terminals-k-clause-answer
returns-then-terminals-k-clause-answer c = few_terminals _ _ _ _ _ _ _ (ready (goal.at.returns-then-terminals-k-clause-answer c).In_ok-idle) c.if-locations-k.false c.if-terminals-k.true

pub returns-then-scratch-scratch_places-clause-answer : goal.returns-then-scratch-scratch_places-clause-answer
returns-then-scratch-scratch_places-clause-answer c =
    few_places _ _ _ _ _ _ _ (ready (goal.at.returns-then-scratch-scratch_places-clause-answer c).In_ok-idle) c.if-locations-k.false c.if-terminals-k.false (omega (arith, c.scratch_places.ensures))

pub returns-then-idle-clause-answer : goal.returns-then-idle-clause-answer
returns-then-idle-clause-answer c =
    plan_none _ _ _ _ _ _ _ (ready (goal.at.returns-then-idle-clause-answer c).In_ok-idle) c.if-locations-k.false c.if-terminals-k.false (enough (goal.at.returns-then-idle-clause-answer c).Else-scratch-scratch_places) c.if-idle.true

pub deal-requires : goal.deal-requires
deal-requires c =
    let args = c.args in
    deal_room _ _ _ args.locations.now args.terminals.now _ (ready (goal.at.deal-requires c).In_ok-idle) c.if-locations-k.false c.if-terminals-k.false

pub returns-clause-answer : goal.returns-clause-answer
returns-clause-answer c =
    plan_done _ _ _ _ _ _ _ (ready (goal.at.returns-clause-answer c).In_ok-idle) c.if-locations-k.false c.if-terminals-k.false (enough (goal.at.returns-clause-answer c).Else-scratch-scratch_places) c.if-idle.false _ _ (c.deal.ensures.locations_after, c.deal.ensures.terminals_after)
