-- `rounds::replays::run_calls` meets its contract.
-- Assumes nothing.
use Rattle.std.proofs.Common.{refl, ◌∙◌}
use Rattle.rounds.proofs.CallLaws.{read_call, reads_ok, known_at}
use Rattle.rounds.proofs.ReplayTurns.{after_turn, placed_turn, after_end, placed_end, placed_written}
use Rattle.rounds.proofs.replays.run_calls.Goals as goal

pub loop-i-init : goal.loop-i-init
loop-i-init c = (refl, refl)

pub unwrap-call-requires : goal.unwrap-call-requires
unwrap-call-requires c = reads_ok _ _ c.try_from.ensures (known_at c.args.calls.now c.loop-i.i c.requires.known c.loop-i-test.true)

pub loop-i-preserved : goal.loop-i-preserved
loop-i-preserved c =
    let l = c.loop-i in
    let is = read_call _ c.unwrap-call.result _ c.try_from.ensures c.unwrap-call.ensures in (
      after_turn _ l.i c.loop-i-test.true _ _ _ _ is c.step-words.ensures l.invariant.0,
      placed_turn _ l.i c.loop-i-test.true _ _ _ _ is c.step-words.ensures l.answers _ c.put.ensures l.invariant.1,
    )

pub returns-clause-state_after : goal.returns-clause-state_after
returns-clause-state_after c = after_end _ c.loop-i.i c.loop-i-test.false _ c.loop-i.invariant.0

pub returns-clause-answers_after : goal.returns-clause-answers_after
returns-clause-answers_after c = placed_end _ c.loop-i.i c.loop-i-test.false _ _ c.loop-i.invariant.1 ∙ placed_written _ _ _
