-- What the promises of private functions on lists and layers say. No public promise cites this file.
-- Assumes nothing.
use Rattle.std.specs.Prelude as rust
use Rattle.std.specs.Prelude.{Bool, Some, None, cond, List, [], ◌∷◌, ◌++◌, map, ℕ, zero, suc, ◌+◌, ◌-◌, ◌^◌, min, ltb, eqb, length, take, drop}
use Rattle.std.proofs.Math.Option.{Option, none, some}
use Rattle.std.specs.Int.Bits.{bit_or}
use Rattle.lists.specs.Lists.{keep, below, not_below, count_below, from, up_to, replace}
use Rattle.layers.specs.Layer.{size, layer}
use Rattle.orders.specs.declared.consistent_reservoir.ConsistentReservoir.{ConsistentReservoir}
use Rattle.orders.specs.declared.scans.Scan.{Scan}
use Rattle.orders.specs.declared.scans.Wide.{Wide}
use Rattle.orders.specs.declared.checks.Survey.{Survey}
use Rattle.orders.specs.Reservoirs.{counts, outputs, up_to_zeros, L, wider}
use Rattle.orders.specs.declared.consistent_reservoir.Exchange.{Exchange}
use Rattle.orders.specs.ReservoirCalls.{listed, fitting}

-- c outputs of layer i from the input x on
abbrev pub outs : ℕ → ℕ → ℕ → ℕ → List ℕ
outs key i x c = map (layer i key) (from x c)

-- the order of 0..4^m in one piece: the outputs of layer m−1, those below 4^(m−1) replaced, in order, by the order of 0..4^(m−1)
unfoldable pub arranged : ℕ → ℕ → List ℕ
arranged key zero = 0 ∷ []
arranged key (suc j) = replace (below (4 ^ j)) (outputs key j) (arranged key j)

-- the smallest, at most d
abbrev pub least : ℕ → List ℕ → ℕ
least d [] = d
least d (x ∷ xs) = min x (least d xs)

-- the smallest number not below n, at most 2^30
unfoldable pub low_of : ℕ → List ℕ → ℕ
low_of n xs = least (4 ^ 15) (keep (not_below n) xs)

-- ---- scans of a layer

-- The outputs ys, up to and with the one that is the last of `left` that pass the test p: x and as many, and the smallest that
-- passes q, at most `low`
abbrev pub scanned : (ℕ → Bool) → (ℕ → Bool) → ℕ → ℕ → ℕ → List ℕ → Scan
scanned p q left x low ys = record { inputs = x + length (up_to p left ys); low = least low (keep q (up_to p left ys)) }

unfoldable pub scan_of : ℕ → ℕ → ℕ → ℕ → Scan
scan_of key i b k = scanned (below b) (not_below b) k 0 (4 ^ 15) (outputs key i)

-- how many of the first u outputs of layer i have top bits 00
unfoldable pub rank_of : ℕ → ℕ → ℕ → ℕ
rank_of key i u = count_below (4 ^ i) (outs key i 0 u)

-- the layer that a growth goes to, its inputs, and its smallest output that is not 00
abbrev pub widened : ℕ → ℕ → Option ℕ → rust.Option Wide
widened key k none = None
widened key k (some i) = Some (record { layer = i; inputs = length (up_to_zeros key i k); low = low_of (4 ^ i) (up_to_zeros key i k) })

unfoldable pub wide_of : ℕ → ℕ → ℕ → rust.Option Wide
wide_of key k j = widened key k (wider key k j)

-- ---- a list written in place

-- the first e outputs of layer i over the list, those with top bits 00 replaced by the list's own numbers in order
unfoldable pub laid_of : ℕ → ℕ → ℕ → List ℕ → List ℕ
laid_of key i e l = replace (below (4 ^ i)) (outs key i 0 e) l ++ drop e l

-- the first u of the order of 0..4^m over the list
unfoldable pub arranged_over : ℕ → ℕ → ℕ → List ℕ → List ℕ
arranged_over key m u l = take u (arranged key m) ++ drop u l

-- ---- the one pass over the listed numbers

-- the or of h and all numbers
abbrev pub or_all : ℕ → List ℕ → ℕ
or_all h [] = h
or_all h (x ∷ xs) = or_all (bit_or h x) xs

-- how many pass the test p, from c on, and the smallest that passes q, at most `low`
abbrev pub surveyed : (ℕ → Bool) → (ℕ → Bool) → ℕ → ℕ → ℕ → List ℕ → Survey
surveyed p q c low high xs = record { count = c + length (keep p xs); low = least low (keep q xs); high = or_all high xs }

-- how many belong to the sample, and the smallest that waits
unfoldable pub survey_of : ℕ → List ℕ → Survey
survey_of n xs = surveyed (counts n) (not_below n) 0 (4 ^ 15) 0 xs

-- the smallest listed number not below n, if the record fits its list
unfoldable pub check_of : ConsistentReservoir → List ℕ → rust.Option ℕ
check_of r l = cond (fitting r l) (Some (low_of r.n (listed r l))) None

-- what an admit that exchanges says
abbrev pub exchanged : Exchange → Option (ℕ × ℕ)
exchanged e = some (e.enters, e.leaves)

-- the inputs of layer i up to and with the l-th output with top bits 00 from the input x on
abbrev pub inputs_from : ℕ → ℕ → ℕ → ℕ → ℕ
inputs_from key i x l = x + length (up_to (below (4 ^ i)) l (outs key i x (size i - x)))

-- ---- the place from layer to layer

-- A number has place t in what layer i gives: its place in what layer i + c gives. One layer up it stands where that layer's (t+1)-th
-- output with top bits 00 does.
unfoldable pub climb : ℕ → ℕ → ℕ → ℕ → ℕ
climb key i t zero = t
climb key i t (suc c) = climb key (suc i) (L key (suc i) (suc t) - 1) c
