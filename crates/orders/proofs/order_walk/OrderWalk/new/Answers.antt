-- `orders::order_walk::OrderWalk::new` meets its contract.
-- Assumes nothing.
use Rattle.orders.proofs.NextLaws.{tested_yes}
use Rattle.orders.proofs.order_walk.OrderWalk.new.Goals as goal

pub top-top-requires : goal.top-top-requires
top-top-requires c = (tested_yes c.args.order c.in_ok-tested.ensures).limit

pub invariant_of-result : goal.invariant_of-result
invariant_of-result c =
    let p = tested_yes c.args.order c.in_ok-tested.ensures in
    record { fit = p.fit; limit = p.limit; layer = c.top-top.ensures.layer; key = c.top-top.ensures.key }
