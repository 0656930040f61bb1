-- What an `OrderWalk` holds beside its order follows from the order.
-- Assumes nothing.
use mathlib.Core.Path.{◌≡◌, sym, ap, ◌∙◌}
use Rattle.orders.specs.declared.consistent_permutation.ConsistentPermutation.{ConsistentPermutation}
use Rattle.orders.specs.declared.order_walk.OrderWalk.{OrderWalk}
use Rattle.orders.specs.Orders.{layer_of}

pub walk_follows : (w v : OrderWalk) → w.order ≡ v.order → (w.top.layer.number ≡ v.top.layer.number) × (w.top.key ≡ v.top.key) × (w.top.keyed ≡ v.top.keyed)
walk_follows w v e =
    let j : w.top.layer.number ≡ v.top.layer.number = w.layer ∙ ap (λ (o : ConsistentPermutation). layer_of o.n) e ∙ sym v.layer in
    let k : w.top.key ≡ v.top.key = w.key ∙ ap (λ (o : ConsistentPermutation). o.master_key) e ∙ sym v.key in
    (j, k, w.top.made ∙ rw (j, k) (sym v.top.made))
