-- Document 01, "A plan call, followed downwards", **Order**, sentence by sentence.
-- Assumes nothing.
use Rattle.std.specs.Prelude.{Bool, cond, List, [], ◌∷◌, ℕ, zero, suc, ◌+◌, ◌-◌, ◌/◌, leb, eqb, get_or, set, replicate}
use Rattle.lists.specs.Lists.{keep, below}
use Rattle.layers.specs.Layer.{size, layer, top_bits}

-- the base-2 logarithm, rounded down: how often a can be halved until it is below 2, at most f times
abbrev pub halvings : ℕ → ℕ → ℕ
halvings zero a = 0
halvings (suc f) a =
    let more = suc (halvings f (a / 2)) in
    cond (below 2 a) 0 more

unfoldable pub log2 : ℕ → ℕ
log2 a = halvings a a

-- "The layer of n is 0 for n at most 1, else half the base-2 logarithm of n−1, both rounded down"
unfoldable pub layer_of : ℕ → ℕ
layer_of n =
    let half = log2 (n - 1) / 2 in
    cond (leb n 1) 0 half

-- "Each layer has a counter from 0, fifteen in an array."
abbrev pub counter : List ℕ → ℕ → ℕ
counter cs j = get_or cs j 0

abbrev pub none_counted : List ℕ
none_counted = replicate 15 0

-- "apply the layer to its counter"
unfoldable pub output : ℕ → ℕ → List ℕ → ℕ
output key j cs = layer j key (counter cs j)

-- "and add 1 to that"
unfoldable pub counted : ℕ → List ℕ → List ℕ
counted j cs = set cs j (counter cs j + 1)

-- the two top bits of an output of layer j are 00
unfoldable pub zero_top : ℕ → ℕ → Bool
zero_top j y = eqb (top_bits j y) 0

-- a number that a layer gave, and the counters after it
pub record Draw : Type 0 where
  pub number : ℕ
  pub counters : List ℕ

abbrev pub draw : ℕ → List ℕ → Draw
draw y cs = record { number = y; counters = cs }

-- "The next number of layer j: .. If the two top output bits are not 00, the output is the number; otherwise it is 0 for
-- j = 0 and the next number of layer j−1 for j above 0."
abbrev pub next_number : ℕ → ℕ → List ℕ → Draw
next_number key zero cs = draw (cond (zero_top 0 (output key 0 cs)) 0 (output key 0 cs)) (counted 0 cs)
next_number key (suc j) cs =
    let lower = next_number key j (counted (suc j) cs) in
    cond (zero_top (suc j) (output key (suc j) cs)) lower (draw (output key (suc j) cs) (counted (suc j) cs))

-- the next c numbers of layer j
abbrev pub next_numbers : ℕ → ℕ → ℕ → List ℕ → List ℕ
next_numbers key j zero cs = []
next_numbers key j (suc c) cs = (next_number key j cs).number ∷ next_numbers key j c (next_number key j cs).counters

-- "what the layer .. gives until its counter is 4^(j+1)", from counters of 0: its counter rises by 1 with each number
unfoldable pub whole : ℕ → ℕ → List ℕ
whole key j = next_numbers key j (size j) none_counted

-- "The order P(n) is what the layer of n gives until its counter is 4^(j+1), numbers of n or more dropped."
unfoldable pub P : ℕ → ℕ → List ℕ
P key n = keep (below n) (whole key (layer_of n))
