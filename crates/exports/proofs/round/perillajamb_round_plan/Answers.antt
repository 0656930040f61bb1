-- `exports::round::perillajamb_round_plan` meets its contract.
-- Assumes nothing.
use Rattle.std.proofs.Common.{refl, rules}
use Rattle.answers.specs.Answers.{after}
use Rattle.answers.specs.Refusals.{answer_of}
use Rattle.rounds.specs.Plans.{plan_lists}
use Rattle.exports.specs.Rounds.{round_layout, plan_crossed}
use Rattle.exports.proofs.CrossLaws.{too_few, read_is}
use Rattle.exports.proofs.RoundCrossLaws.{outcome_spares}
use Rattle.exports.proofs.round.perillajamb_round_plan.Goals as goal

pub returns-then-words-lt-WORDS : goal.returns-then-words-lt-WORDS
unfolding plan_crossed
returns-then-words-lt-WORDS c = record {
  answer = too_few round_layout c.args.words.now c.if-words-lt-WORDS.true _ 4 _ _ c.refused.ensures;
  scratch_after = λ _. refl;
}

pub returns : goal.returns
unfolding plan_crossed
returns c =
    let a = c.args in
    record {
      answer =
          rw (← c.loaded-r.ensures, ← c.plan.ensures.answer)
          (read_is round_layout a.words.now (search rules) (λ u. 0) (plan_lists a.locations.now a.terminals.now) (after (answer_of c.plan.result) _) _ c.done.ensures);
      scratch_after = outcome_spares c.plan.result _ _ _ c.done.ensures c.plan.ensures.scratch_after;
    }
