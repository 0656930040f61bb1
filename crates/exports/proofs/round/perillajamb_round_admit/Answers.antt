-- `exports::round::perillajamb_round_admit` meets its contract.
-- Assumes nothing.
use Rattle.std.proofs.Common.{◌∙◌, rules}
use Rattle.answers.specs.Answers.{after}
use Rattle.orders.specs.ReservoirCalls.{answer_of_exchange}
use Rattle.rounds.specs.Rounds.{state, admit_call}
use Rattle.exports.specs.Reservoirs.{exchange_number}
use Rattle.exports.specs.Rounds.{round_layout, round_lending, admit_crossed}
use Rattle.exports.proofs.KeptLaws.{kept_exchange}
use Rattle.exports.proofs.CrossLaws.{too_few, called_is}
use Rattle.exports.proofs.round.perillajamb_round_admit.Goals as goal

pub returns-then-words-lt-WORDS : goal.returns-then-words-lt-WORDS
unfolding admit_crossed
returns-then-words-lt-WORDS c = too_few round_layout c.args.words.now c.if-words-lt-WORDS.true _ 4 _ _ c.refused.ensures

pub returns : goal.returns
unfolding admit_crossed
returns c =
    let a = c.args in
    let said = c.admit-said in
    let words = rw c.is_ok.ensures.value at c.keep.ensures in
    called_is round_lending (λ r. state r a.list.now a.table.now) a.words.now (search rules) exchange_number admit_call _ (after (answer_of_exchange said.result) (state said.new.self _ _)) _ _
    c.loaded-r.ensures said.ensures c.exchange.ensures (words ∙ kept_exchange _ _ said.result)
