-- Document 01, "A plan call, followed downwards", **Reservoir**, sentence by sentence: what a reservoir lists, and how that
-- changes. The calls stand in ReservoirCalls.antt.
-- Assumes nothing.
use Rattle.std.specs.Prelude.{Bool, List, map, ℕ, suc, ◌+◌, ◌-◌, ◌^◌, ltb, length, take, get_or}
use Rattle.std.proofs.Math.Option
use Rattle.std.proofs.Math.Option.{Option, none, some}
use Rattle.lists.specs.Lists.{keep, below, not_below, has, zero_to, smallest, up_to, replace, first_from}
use Rattle.layers.specs.Layer.{size, layer}
use Rattle.orders.specs.Orders.{layer_of, zero_top, whole, P}

-- the one test of what belongs to the sample: "the list's numbers below n"
unfoldable pub counts : ℕ → ℕ → Bool
counts n = below n

-- "Open with k of n: the list holds P(4^(j+1)), j the layer of n, up to and with its k-th number below n."
unfoldable pub opening : ℕ → ℕ → ℕ → List ℕ
opening key k n = up_to (counts n) k (P key (size (layer_of n)))

-- "the smallest listed number not below n comes in". No list that an admit gets to is without one; 0 would stand for none.
unfoldable pub incoming : ℕ → List ℕ → ℕ
incoming n xs = Option.get_or (smallest (keep (not_below n) xs)) 0

-- all outputs of layer i, in the order of its inputs
abbrev pub outputs : ℕ → ℕ → List ℕ
outputs key i = map (layer i key) (zero_to (size i))

-- the outputs of layer i up to and with its k-th with top bits 00
unfoldable pub up_to_zeros : ℕ → ℕ → ℕ → List ℕ
up_to_zeros key i k = up_to (zero_top i) k (outputs key i)

-- "Li(k) is the number of inputs of layer i, from 0, up to and with its k-th output with top bits 00."
abbrev pub L : ℕ → ℕ → ℕ → ℕ
L key i k = length (up_to_zeros key i k)

-- "its Li(k) outputs become the list, the t-th such 00 output replaced by the t-th old entry"
unfoldable pub grown : ℕ → ℕ → ℕ → List ℕ → List ℕ
grown key i k olds = replace (zero_top i) (up_to_zeros key i k) olds

-- "layers j+1, j+2, .. are tried. .. The first i up to 14 with Li(k) above k becomes the layer"
unfoldable pub wider : ℕ → ℕ → ℕ → Option ℕ
wider key k j = first_from (λ i. ltb k (L key i k)) (suc j) (14 - j)

-- ---- a record reached from open, by the orders alone

-- what it lists: what layer j gives, up to and with the k-th number below n
unfoldable pub held : ℕ → ℕ → ℕ → ℕ → List ℕ
held key j k n = up_to (counts n) k (whole key j)

-- v "is among the first k of P(v+1)"
abbrev pub among : ℕ → ℕ → ℕ → Bool
among key k v = has v (take k (P key (v + 1)))

-- "the smallest v from n up that is among the first k of P(v+1)", below 2^30
unfoldable pub due : ℕ → ℕ → ℕ → Option ℕ
due key k n = first_from (among key k) n (2 ^ 30 - n)

-- "the k-th of P(n)"
unfoldable pub kth : ℕ → ℕ → ℕ → ℕ
kth key k n = get_or (P key n) (k - 1) 0

-- what an admit says, by the number that is due: "in is v, out the k-th of P(n)"; "With no such v: none."
abbrev pub in_and_out : ℕ → ℕ → ℕ → Option ℕ → Option (ℕ × ℕ)
in_and_out key k n none = none
in_and_out key k n (some v) = some (v, kth key k n)

-- the n after it: "n becomes v+1"; with no such v it stays
abbrev pub n_after : ℕ → Option ℕ → ℕ
n_after n none = n
n_after n (some v) = v + 1
