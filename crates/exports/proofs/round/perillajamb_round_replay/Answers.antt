-- `exports::round::perillajamb_round_replay` meets its contract.
-- Assumes nothing.
use Rattle.exports.specs.Rounds.{replay_crossed}
use Rattle.exports.proofs.RoundCrossLaws.{outcome_replayed, replay_spares}
use Rattle.exports.proofs.round.perillajamb_round_replay.Goals as goal

pub returns : goal.returns
unfolding replay_crossed
returns c =
    let g = c.replay in
    let coded = c.done.ensures in
    record {
      answer = rw (← g.ensures.answer, coded);
      replayed_as = outcome_replayed g.result _ _ _ _ _ _ _ _ _ _ coded g.ensures.replayed;
      replay_scratch_as = replay_spares g.result _ _ _ _ _ coded g.ensures.replay_scratch;
    }
