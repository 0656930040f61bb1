-- What the definitions give is again a word.
-- Assumes nothing.
use Rattle.std.proofs.Common.{ℕ, ◌*◌, ◌/◌, ◌^◌, ◌<◌, lt_of_le_of_lt, mod-lt, pow_pos}
use lib.Pow.{shr_le}
use lib.Bits.{bit_xor, xor_lt}
use Rattle.words.specs.Words.{wrapping_mul, mix}

pub wrapping_mul_lt : (a b : ℕ) → wrapping_mul a b < 2 ^ 64
unfolding wrapping_mul
wrapping_mul_lt a b = mod-lt (a * b) (pow_pos 64)

-- a word and its high part
xor_shr_lt : (x k : ℕ) → x < 2 ^ 64 → bit_xor x (x / 2 ^ k) < 2 ^ 64
xor_shr_lt x k h = xor_lt 64 x (x / 2 ^ k) h (lt_of_le_of_lt (shr_le x k) h)

pub mix_lt : (v : ℕ) → mix v < 2 ^ 64
unfolding mix
mix_lt v = xor_shr_lt _ 31 (wrapping_mul_lt _ _)
