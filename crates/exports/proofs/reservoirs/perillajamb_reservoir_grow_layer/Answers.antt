-- `exports::reservoirs::perillajamb_reservoir_grow_layer` meets its contract.
-- Assumes nothing.
use Rattle.std.proofs.Common.{◌∙◌, rules}
use Rattle.answers.specs.Answers.{after}
use Rattle.answers.specs.Refusals.{answer_of}
use Rattle.orders.specs.ReservoirCalls.{ReservoirState, reservoir_state, grow_layer_call}
use Rattle.exports.specs.Reservoirs.{reservoir_layout, reservoir_lending, grow_crossed}
use Rattle.exports.proofs.KeptLaws.{kept}
use Rattle.exports.proofs.CrossLaws.{too_few, called_is}
use Rattle.exports.proofs.reservoirs.perillajamb_reservoir_grow_layer.Goals as goal

pub returns-then-words-lt-WORDS : goal.returns-then-words-lt-WORDS
unfolding grow_crossed
returns-then-words-lt-WORDS c = too_few reservoir_layout c.args.words.now c.if-words-lt-WORDS.true _ 4 _ _ c.refused.ensures

pub returns : goal.returns
unfolding grow_crossed
returns c =
    let a = c.args in
    let said = c.grow_layer-said in
    let words = rw c.is_ok.ensures.value at c.keep.ensures in
    called_is reservoir_lending (λ r. reservoir_state r a.list.now) a.words.now (search rules) (λ u. 0) (λ (s : ReservoirState). grow_layer_call s.reservoir s.list) _ (after (answer_of said.result) (reservoir_state said.new.self _)) _ _
    c.loaded-r.ensures said.ensures c.done.ensures (words ∙ kept _ _ said.result)
