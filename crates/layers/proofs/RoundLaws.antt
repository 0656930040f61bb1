-- Rounds one after the other, and the halves they stay within.
-- Assumes nothing.
use Rattle.std.proofs.Common.{◌≡◌, ℕ, zero, suc, ◌+◌, ◌-◌, ◌*◌, ◌/◌, ◌%◌, ◌^◌, ◌<◌, ◌≤◌, refl, not-suc-le-zero, mod-lt, arith, pow_pos}
use lib.Arith.{digits_lt}
use lib.Pow.{mod-mod-pow}
use lib.Bits.{bit_and, bit_xor, xor_lt, or_lt, and_mask}
use Rattle.lists.proofs.Numbers.{four_pow, mul_lt_pow}
use Rattle.layers.specs.declared.feistel.Halves.{Halves}
use Rattle.layers.specs.Layer.{start, round_function, round, rounds, over}
use Rattle.layers.specs.KeyedLayers.{k_xor, k_mul, new_right}
use Rattle.layers.specs.InnerRounds.{Within}

pub rounds_step : (h n : ℕ) (s : Halves) → 0 < n → rounds h n s ≡ rounds h (n - 1) (round h s)
unfolding rounds
rounds_step h zero s p = absurd (not-suc-le-zero p)
rounds_step h (suc n) s p = let e : suc n - 1 ≡ n = omega arith in rw e

-- n of them are the first m, and then the others
pub rounds_more : (h m n : ℕ) (s : Halves) → m ≤ n → rounds h n s ≡ rounds h (n - m) (rounds h m s)
unfolding rounds
rounds_more h zero n s p = let e : n - 0 ≡ n = omega arith in rw e
rounds_more h (suc m) zero s p = absurd (omega arith)
rounds_more h (suc m) (suc n) s p = let e : suc n - suc m ≡ n - m = omega arith in rw e (rounds_more h m n (round h s) (omega arith))

-- the low h bits of a word are those of its low 32 bits
low_low : (s h : ℕ) → h ≤ 32 → s % 2 ^ 32 % 2 ^ h ≡ s % 2 ^ h
low_low s h p =
    let e : (32 - h) + h ≡ 32 = omega arith in
    rw e at (mod-mod-pow s (32 - h) h)

-- a mask is the remainder
pub masked : (h mask s : ℕ) → h ≤ 32 → mask ≡ 2 ^ h - 1 → bit_and (s % 2 ^ 32) mask ≡ s % 2 ^ h
masked h mask s p e = rw (e, and_mask (s % 2 ^ 32) h, low_low s h p)

-- the new right half, by the key
pub new_round : (h l r K : ℕ) → new_right h l r (k_xor K) (k_mul K) ≡ bit_xor l (round_function h r K)
unfolding new_right round_function
new_round h l r K = refl

-- "p = u × w, below 2^64"
pub product_lt : (r K : ℕ) → r < 2 ^ 32 → K < 2 ^ 64 → bit_xor r (k_xor K) * k_mul K < 2 ^ 64
product_lt r K p q =
    mul_lt_pow 32 (xor_lt 32 r (K % 2 ^ 32) p (omega arith)) (or_lt 32 (K / 2 ^ 32) 1 (omega arith) (omega arith))

-- ---- the halves stay below 2^h

pub new_lt : (h l r x w : ℕ) → l < 2 ^ h → new_right h l r x w < 2 ^ h
unfolding new_right
new_lt h l r x w p = xor_lt h l ((bit_xor r x * w % 2 ^ 32 + bit_xor r x * w / 2 ^ 32) % 2 ^ h) p (mod-lt _ (pow_pos h))

pub function_lt : (h l r K : ℕ) → l < 2 ^ h → bit_xor l (round_function h r K) < 2 ^ h
function_lt h l r K p = rw (← new_round h l r K) (new_lt h l r (k_xor K) (k_mul K) p)

pub start_within : (h key x : ℕ) → Within h (start h key x)
unfolding start
start_within h key x = record { left = mod-lt (x / 2 ^ h) (pow_pos h); right = mod-lt x (pow_pos h) }

pub round_within : (h : ℕ) (s : Halves) → Within h s → Within h (round h s)
unfolding round
round_within h s w = record { left = w.right; right = function_lt h s.l s.r s.key w.left }

pub rounds_within : (h n : ℕ) (s : Halves) → Within h s → Within h (rounds h n s)
unfolding rounds
rounds_within h zero s w = w
rounds_within h (suc n) s w = rounds_within h n (round h s) (round_within h s w)

-- and l over r below 4^h
pub over_lt : (h : ℕ) (s : Halves) → Within h s → over h s < 4 ^ h
unfolding over
over_lt h s w = rw four_pow (digits_lt w.left w.right)
