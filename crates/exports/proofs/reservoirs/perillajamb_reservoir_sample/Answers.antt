-- `exports::reservoirs::perillajamb_reservoir_sample` meets its contract.
-- Assumes nothing.
use Rattle.std.proofs.Common.{rules}
use Rattle.answers.specs.Answers.{after}
use Rattle.answers.specs.Refusals.{answer_of}
use Rattle.exports.specs.Reservoirs.{reservoir_layout, sample_crossed}
use Rattle.exports.proofs.CrossLaws.{too_few, read_is}
use Rattle.exports.proofs.reservoirs.perillajamb_reservoir_sample.Goals as goal

pub returns-then-words-lt-WORDS : goal.returns-then-words-lt-WORDS
unfolding sample_crossed
returns-then-words-lt-WORDS c = too_few reservoir_layout c.args.words.now c.if-words-lt-WORDS.true _ 4 _ _ c.refused.ensures

pub returns : goal.returns
unfolding sample_crossed
returns c =
    let a = c.args in
    rw (← c.loaded.ensures, ← c.reservoir.ensures)
    (read_is reservoir_layout a.words.now (search rules) (λ u. 0) a.out.now (after (answer_of c.reservoir.result) _) _ c.done.ensures)
