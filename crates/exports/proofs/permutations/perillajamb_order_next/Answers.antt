-- `exports::permutations::perillajamb_order_next` meets its contract.
-- Assumes nothing.
use Rattle.std.proofs.Common.{◌∙◌, rules}
use Rattle.answers.specs.Answers.{after}
use Rattle.answers.specs.Refusals.{answer_of_option}
use Rattle.orders.specs.OrderCalls.{next_call}
use Rattle.exports.specs.Coded.{found_number}
use Rattle.exports.specs.Orders.{order_layout, order_lending, next_order_crossed}
use Rattle.exports.proofs.KeptLaws.{kept_option}
use Rattle.exports.proofs.CrossLaws.{too_few, called_is}
use Rattle.exports.proofs.permutations.perillajamb_order_next.Goals as goal

pub returns-then-ws-lt-WORDS : goal.returns-then-ws-lt-WORDS
unfolding next_order_crossed
returns-then-ws-lt-WORDS c = too_few order_layout c.args.ws.now c.if-ws-lt-WORDS.true _ 4 _ _ c.refused.ensures

pub returns : goal.returns
unfolding next_order_crossed
returns c =
    let a = c.args in
    let said = c.next-said in
    let words = rw c.is_ok.ensures.value at c.keep.ensures in
    called_is order_lending (λ o. o) a.ws.now (search rules) found_number next_call _ (after (answer_of_option said.result) _) _ _
    c.loaded-order.ensures said.ensures c.number_or_none.ensures (words ∙ kept_option _ _ said.result)
