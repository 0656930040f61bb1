-- What the order's calls say and leave, on any record with any fifteen counters.
-- Assumes nothing.
use Rattle.std.specs.Prelude.{Bool, cond, ◌&&◌, ◌||◌, List, ℕ, zero, suc, ◌-◌, ◌^◌, ltb, leb, eqb}
use Rattle.std.proofs.Math.Option.{none, some}
use Rattle.answers.specs.Answers.{Answer, refusal, result, map_answer, After, after, refused}
use Rattle.answers.specs.Steps.{Step}
use Rattle.lists.specs.Lists.{below, zero_to, every}
use Rattle.layers.specs.Layer.{size}
use Rattle.orders.specs.declared.consistent_permutation.ConsistentPermutation.{ConsistentPermutation}
use Rattle.orders.specs.Orders.{layer_of, counter, none_counted, output, zero_top, next_number}

-- an order, by its key, n and counters
abbrev pub order_of : ℕ → ℕ → List ℕ → ConsistentPermutation
order_of key n cs = record { master_key = key; n = n; counters = cs }

abbrev pub key_of : ConsistentPermutation → ℕ
key_of o = o.master_key

-- ---- new

-- 1: "n above 2^30"
unfoldable pub new_call : ℕ → ℕ → Answer ConsistentPermutation
new_call n key = cond (ltb (2 ^ 30) n) (refusal 1) (result (order_of key n none_counted))

-- the same, and the order that is left. The order beside a refusal is the empty one.
unfoldable pub started_call : ℕ → ℕ → After ConsistentPermutation (Unit {0})
started_call n key =
    cond (ltb (2 ^ 30) n) (after (refusal 1) (order_of key 0 none_counted))
    (after (result tt) (order_of key n none_counted))

-- ---- next

-- 12: "any of the fifteen counters above its layer's size"
unfoldable pub within : List ℕ → Bool
within cs = every (λ j. leb (counter cs j) (size j)) (zero_to 15)

-- 12: ".. or one met at it in a descent": the next number of layer j asks for a counter that is at its size
abbrev pub meets : ℕ → ℕ → List ℕ → Bool
meets key zero cs = leb (size 0) (counter cs 0)
meets key (suc j) cs = leb (size (suc j)) (counter cs (suc j)) || (zero_top (suc j) (output key (suc j) cs) && meets key j cs)

-- "what the layer of n gives until its counter is 4^(j+1), numbers of n or more dropped": the first of it, where c inputs of
-- the layer are left. A refusal leaves the order as it was.
abbrev pub first_of : ConsistentPermutation → ℕ → ℕ → List ℕ → Step ConsistentPermutation
first_of o j zero cs = after (result none) (order_of (key_of o) o.n cs)
first_of o j (suc c) cs =
    let d = next_number (key_of o) j cs in
    let later = first_of o j c d.counters in
    cond (meets (key_of o) j cs) (refused 12 o)
    (cond (below o.n d.number) (after (result (some d.number)) (order_of (key_of o) o.n d.counters)) later)

-- "A next for n = 0 says none and changes no counter."
unfoldable pub next_call : ConsistentPermutation → Step ConsistentPermutation
next_call o =
    let j = layer_of o.n in
    cond (within o.counters)
    (cond (ltb (2 ^ 30) o.n) (refused 1 o)
    (cond (eqb o.n 0) (after (result none) o)
    (first_of o j (size j - counter o.counters j) o.counters)))
    (refused 12 o)

-- ---- many calls of next: the tests that come before the first output are made once

-- 12: "any of the fifteen counters above its layer's size"; 1: "n above 2^30"
unfoldable pub tested : ConsistentPermutation → Answer (Unit {0})
tested o = cond (within o.counters) (cond (ltb (2 ^ 30) o.n) (refusal 1) (result tt)) (refusal 12)

-- the order, where it may be walked
abbrev pub walk_new_call : ConsistentPermutation → Answer ConsistentPermutation
walk_new_call o = map_answer (λ u. o) (tested o)
