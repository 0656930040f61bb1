-- `exports::reservoirs::perillajamb_reservoir_next` meets its contract.
-- Assumes nothing.
use Rattle.std.proofs.Common.{◌∙◌, rules}
use Rattle.answers.specs.Answers.{after}
use Rattle.orders.specs.ReservoirCalls.{answer_of_exchange}
use Rattle.orders.specs.ReservoirCalls.{ReservoirState, reservoir_state, admit_call}
use Rattle.exports.specs.Reservoirs.{exchange_number}
use Rattle.exports.specs.Reservoirs.{reservoir_layout, reservoir_lending, next_crossed}
use Rattle.exports.proofs.KeptLaws.{kept_exchange}
use Rattle.exports.proofs.CrossLaws.{too_few, called_is}
use Rattle.exports.proofs.reservoirs.perillajamb_reservoir_next.Goals as goal

pub returns-then-words-lt-WORDS : goal.returns-then-words-lt-WORDS
unfolding next_crossed
returns-then-words-lt-WORDS c = too_few reservoir_layout c.args.words.now c.if-words-lt-WORDS.true _ 4 _ _ c.refused.ensures

pub returns : goal.returns
unfolding next_crossed
returns c =
    let a = c.args in
    let said = c.next-said in
    let words = rw c.is_ok.ensures.value at c.keep.ensures in
    called_is reservoir_lending (λ r. reservoir_state r a.list.now) a.words.now (search rules) exchange_number (λ (s : ReservoirState). admit_call s.reservoir s.list) _ (after (answer_of_exchange said.result) (reservoir_state said.new.self _)) _ _
    c.loaded-r.ensures said.ensures c.exchange.ensures (words ∙ kept_exchange _ _ said.result)
