-- `exports::permutations::perillajamb_order_new` meets its contract.
-- Assumes nothing.
use Prim.Native.Nat.{◌^◌}
use Rattle.std.proofs.Common.{rules}
use Rattle.answers.specs.Answers.{after}
use Rattle.answers.specs.Refusals.{answer_of}
use Rattle.answers.specs.Making.{short_refusal}
use Rattle.exports.specs.Orders.{order_layout, new_order_crossed}
use Rattle.exports.proofs.CrossLaws.{too_few, made_is}
use Rattle.exports.proofs.permutations.perillajamb_order_new.Goals as goal

pub returns-then-ws-lt-WORDS : goal.returns-then-ws-lt-WORDS
unfolding new_order_crossed
returns-then-ws-lt-WORDS c =
    let a = c.args in
    too_few order_layout a.ws.now c.if-ws-lt-WORDS.true _ (short_refusal (2 ^ 30) 0 0 a.n) _ _ (rw (c.short_refusal.ensures, c.from-limit.ensures, c.from.ensures) at c.refused.ensures)

pub returns : goal.returns
unfolding new_order_crossed
returns c =
    let a = c.args in
    let made = c.store_made.ensures in
    rw (← c.new.ensures) (made_is order_layout a.ws.now (search rules) {N = Unit {0}} (short_refusal (2 ^ 30) 0 0 a.n) (λ v u. v) tt (after (answer_of c.new.result) tt) _ _ made.answer made.made)
