-- What the promises of private functions on an order's counters say. No public promise cites this file.
-- Assumes nothing.
use Rattle.std.specs.Prelude.{Option, None, Some, cond, List, ℕ, zero, suc, ◌-◌, ◌^◌, set}
use Rattle.std.proofs.Math.Option.{none, some}
use Rattle.answers.specs.Answers.{result, refused, after}
use Rattle.answers.specs.Steps.{Step}
use Rattle.lists.specs.Lists.{below}
use Rattle.layers.specs.Layer.{size, layer}
use Rattle.orders.specs.declared.consistent_permutation.ConsistentPermutation.{ConsistentPermutation}
use Rattle.orders.specs.declared.counters.Walked.{Walked}
use Rattle.orders.specs.Orders.{counted, next_number}
use Rattle.orders.specs.OrderCalls.{order_of, key_of, meets}

-- the counters of the layers i, i+1, .., i+c−1 each one higher
abbrev pub raises : List ℕ → ℕ → ℕ → List ℕ
raises cs i zero = cs
raises cs i (suc c) = raises (counted i cs) (suc i) c

abbrev pub walked : ℕ → Option ℕ → Walked
walked x y = record { input = x; number = y }

-- Layer j from its input x on, c inputs: the input after the first output below n, and that output. With none the input after
-- all.
abbrev pub seek : ℕ → ℕ → ℕ → ℕ → ℕ → Walked
seek key j n x zero = walked x None
seek key j n x (suc c) =
    let later = seek key j n (suc x) c in
    cond (below n (layer j key x)) (walked (suc x) (Some (layer j key x))) later

-- from x to the layer's end
unfoldable pub walk_of : ℕ → ℕ → ℕ → ℕ → Walked
walk_of key j n x = seek key j n x (size j - x)

-- the next number of layer j, none where its descent meets a counter at its size
unfoldable pub stop_of : ℕ → ℕ → List ℕ → Option ℕ
stop_of key j cs = cond (meets key j cs) None (Some (next_number key j cs).number)

-- Layer i+1 gave an output 00, and its counter becomes x: the number is the next of layer i.
unfoldable pub lower_step : ConsistentPermutation → ℕ → ℕ → Step ConsistentPermutation
lower_step o i x =
    let d = next_number (key_of o) i o.counters in
    cond (meets (key_of o) i o.counters) (refused 12 o)
    (after (result (some d.number)) (order_of (key_of o) o.n (set d.counters (suc i) x)))

-- Layer j gave an output y with top bits 00, and its counter becomes x.
abbrev pub zero_step : ConsistentPermutation → ℕ → ℕ → ℕ → Step ConsistentPermutation
zero_step o zero x y = after (result (some y)) (order_of (key_of o) o.n (set o.counters 0 x))
zero_step o (suc i) x y = lower_step o i x

-- what a call leaves where the walk through the top layer j ended at the input x, by the number that it found
abbrev pub top_by : ConsistentPermutation → ℕ → ℕ → Option ℕ → Step ConsistentPermutation
top_by o j x None = after (result none) (order_of (key_of o) o.n (set o.counters j x))
top_by o j x (Some y) = cond (below (4 ^ j) y) (zero_step o j x y) (after (result (some y)) (order_of (key_of o) o.n (set o.counters j x)))

unfoldable pub top_step : ConsistentPermutation → ℕ → Walked → Step ConsistentPermutation
top_step o j w = top_by o j w.input w.number
