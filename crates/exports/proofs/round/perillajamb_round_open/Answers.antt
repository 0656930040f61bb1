-- `exports::round::perillajamb_round_open` meets its contract.
-- Assumes nothing.
use Prim.Native.Nat.{◌^◌}
use Rattle.std.proofs.Common.{rules}
use Rattle.answers.specs.Answers.{after}
use Rattle.answers.specs.Refusals.{answer_of}
use Rattle.answers.specs.Making.{short_refusal}
use Rattle.exports.specs.Crossings.{words_list}
use Rattle.exports.specs.Rounds.{round_layout, open_crossed}
use Rattle.exports.proofs.CrossLaws.{too_few, made_is}
use Rattle.exports.proofs.round.perillajamb_round_open.Goals as goal

pub returns-then-words-lt-WORDS : goal.returns-then-words-lt-WORDS
unfolding open_crossed
returns-then-words-lt-WORDS c =
    let a = c.args in
    too_few round_layout a.words.now c.if-words-lt-WORDS.true _ (short_refusal (2 ^ 30) 1 a.k a.n) _ _ (rw c.short_refusal.ensures at c.refused.ensures)

pub returns : goal.returns
unfolding open_crossed
returns c =
    let a = c.args in
    let made = c.store_made.ensures in
    rw (← c.«open».ensures) (made_is round_layout a.words.now (search rules) (short_refusal (2 ^ 30) 1 a.k a.n) words_list a.list.now (after (answer_of c.«open».result) _) _ _ made.answer made.made)
