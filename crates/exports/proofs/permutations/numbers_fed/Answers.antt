-- `exports::permutations::numbers_fed` meets its contract.
-- Assumes nothing.
use Rattle.std.proofs.Common.{◌≡◌, ap, is_ok, ◌∙◌}
use Rattle.orders.specs.Orders.{none_counted}
use Rattle.orders.specs.OrderCalls.{order_of}
use Rattle.orders.proofs.OrderWalks.{Going, going_new}
use Rattle.exports.proofs.OrderFedLaws.{order_made, order_is, walk_made, walk_is, feeding_new, feeding_turn, feeding_end}
use Rattle.exports.proofs.permutations.numbers_fed.Goals as goal
use Rattle.exports.proofs.permutations.numbers_fed.Goals.{After-unwrap-order}

pub unwrap-order-requires : goal.unwrap-order-requires
unwrap-order-requires c = ap is_ok (order_made _ _ c.new.result c.new.ensures c.requires)

new_is : (c : After-unwrap-order) → c.unwrap-order.result ≡ order_of c.args.key c.args.n none_counted
new_is c = order_is _ _ c.new.result _ c.new.ensures c.requires c.unwrap-order.ensures

going : (c : After-unwrap-order) → Going c.unwrap-order.result
going c = rw (new_is c) (going_new c.args.key c.args.n c.requires)

pub unwrap-walk-requires : goal.unwrap-walk-requires
unwrap-walk-requires c = walk_made _ c.new-2.result c.new-2.ensures (going (goal.at.unwrap-walk-requires c).After-unwrap-order)

pub loop-init : goal.loop-init
loop-init c =
    let o = (goal.at.loop-init c).After-unwrap-order in
    rw (walk_is _ c.new-2.result _ c.new-2.ensures (going o) c.unwrap-walk.ensures ∙ new_is o) (feeding_new c.args.key c.args.n c.args.count c.requires)

pub loop-preserved : goal.loop-preserved
loop-preserved c =
    let l = c.loop in
    feeding_turn _ _ _ l.counter l.fed l.walk.order l.invariant _ _ _ c.loop-test.true c.next.ensures c.fed_with-fed.ensures

pub returns : goal.returns
returns c =
    let l = c.loop in
    feeding_end _ _ _ l.counter l.fed l.walk.order l.invariant c.loop-test.false
