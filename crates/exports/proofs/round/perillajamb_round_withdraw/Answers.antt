-- `exports::round::perillajamb_round_withdraw` meets its contract.
-- Assumes nothing.
use Rattle.std.proofs.Common.{◌∙◌, rules}
use Rattle.answers.specs.Answers.{after}
use Rattle.answers.specs.Refusals.{answer_of}
use Rattle.rounds.specs.Rounds.{state, State, state, withdraw_call}
use Rattle.exports.specs.Rounds.{round_layout, round_lending, withdraw_crossed}
use Rattle.exports.proofs.KeptLaws.{kept}
use Rattle.exports.proofs.CrossLaws.{too_few, called_is}
use Rattle.exports.proofs.round.perillajamb_round_withdraw.Goals as goal

pub returns-then-words-lt-WORDS : goal.returns-then-words-lt-WORDS
unfolding withdraw_crossed
returns-then-words-lt-WORDS c = too_few round_layout c.args.words.now c.if-words-lt-WORDS.true _ 4 _ _ c.refused.ensures

pub returns : goal.returns
unfolding withdraw_crossed
returns c =
    let a = c.args in
    let said = c.withdraw-said in
    let words = rw c.is_ok.ensures.value at c.keep.ensures in
    called_is round_lending (λ r. state r a.list.now a.table.now) a.words.now (search rules) (λ u. 0) (λ (s : State). withdraw_call s a.slot) _ (after (answer_of said.result) (state said.new.self _ _)) _ _
    c.loaded-r.ensures said.ensures c.done.ensures (words ∙ kept _ _ said.result)
