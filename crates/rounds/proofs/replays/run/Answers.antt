-- `rounds::replays::run` meets its contract.
-- Assumes nothing.
use native.Mathlib.Omega.{arith}
use lib.ListN.{length}
use Rattle.rounds.specs.Rounds.{state}
use Rattle.rounds.proofs.ReplayTurns.{run_is, run_scratch}
use Rattle.rounds.proofs.replays.run.Goals as goal

pub overflow_mul-calls : goal.overflow_mul-calls
overflow_mul-calls c = omega arith

pub put-requires : goal.put-requires
put-requires c =
    omega (arith, c.requires.room, c.run_calls.auto.answers)

pub returns : goal.returns
returns c =
    let a = c.args in record {
      answer = run_is (state a.r a.list.now a.table.now) a.calls.now _ _ _ _ _ _ _ _ c.plan-planned.result c.of_nothing.result _ _ _
          c.run_calls.ensures.state_after c.run_calls.ensures.answers_after c.plan-planned.ensures.answer c.of_nothing.ensures c.put.ensures;
      scratch_run = run_scratch (length a.calls.now) c.plan-planned.result c.of_nothing.result _ _ _ _
          (omega (arith, c.requires.room, c.run_calls.auto.answers)) c.of_nothing.ensures c.put.ensures c.plan-planned.ensures.scratch_after;
    }
