-- How an order crosses to C and Rust: its record as eighteen words, its answers as one number (Coded.antt, `coded_hash`).
-- Assumes nothing.
use Rattle.std.specs.Prelude.{cond, List, ◌∷◌, map, ℕ, ◌+◌, ◌*◌, ◌/◌, ◌%◌, ◌^◌, ltb, take, get_or}
use Rattle.answers.specs.Answers.{Answer, refusal, result, after}
use Rattle.answers.specs.Making.{short_refusal}
use Rattle.lists.specs.Lists.{zero_to}
use Rattle.orders.specs.declared.consistent_permutation.ConsistentPermutation.{ConsistentPermutation}
use Rattle.orders.specs.Orders.{P}
use Rattle.orders.specs.OrderCalls.{order_of, key_of, new_call, next_call}
use Rattle.exports.specs.Coded.{found_number, digest}
use Rattle.exports.specs.Crossings.{Crossed, Layout, Lending, made, called}

-- the key's low and high 32 bits, n, and the fifteen counters
abbrev pub order_words : ConsistentPermutation → List ℕ
order_words o = key_of o % 2 ^ 32 ∷ key_of o / 2 ^ 32 ∷ o.n ∷ map (λ i. get_or o.counters i 0) (zero_to 15)

abbrev pub order_as : List ℕ → ConsistentPermutation
order_as ws = order_of (get_or ws 1 0 * 2 ^ 32 + get_or ws 0 0) (get_or ws 2 0) (map (λ i. get_or ws (3 + i) 0) (zero_to 15))

abbrev pub order_layout : Layout ConsistentPermutation
order_layout = record { count = 18; words = order_words; reads = order_as }

-- ---- the calls

unfoldable pub new_order_crossed : ℕ → ℕ → List ℕ → Crossed (List ℕ)
new_order_crossed key n ws = made {N = Unit {0}} order_layout (short_refusal (2 ^ 30) 0 0 n) (λ v u. v) ws tt (after (new_call n key) tt)

-- nothing is lent beside the words
abbrev pub order_lending : Lending ConsistentPermutation ConsistentPermutation (List ℕ)
order_lending = record { layout = order_layout; own = λ o. o; lay = λ ws o. ws }

unfoldable pub next_order_crossed : List ℕ → Crossed (List ℕ)
next_order_crossed ws = called order_lending found_number ws (order_as ws) next_call

-- ---- the first numbers of an order, as one number; 1 for n above 2^30

unfoldable pub order_digest : ℕ → ℕ → ℕ → Answer ℕ
order_digest key n count = cond (ltb (2 ^ 30) n) (refusal 1) (result (digest (take count (P key n))))
