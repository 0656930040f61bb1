-- Document 01, "A plan call, followed downwards", **Layer**, sentence by sentence.
-- Assumes nothing.
use Rattle.std.specs.Prelude.{ℕ, zero, suc, ◌+◌, ◌*◌, ◌/◌, ◌%◌, ◌^◌, bit_or, bit_xor}
use Rattle.words.specs.Words.{rotate_right}
use Rattle.layers.specs.declared.feistel.Halves.{Halves}

-- "per layer the bits 2j+2, the size 4^(j+1) and the Feistel rounds (12, 10, 6, then 4)"
abbrev pub bits : ℕ → ℕ
bits j = 2 * j + 2

abbrev pub size : ℕ → ℕ
size j = 4 ^ (j + 1)

abbrev pub round_count : ℕ → ℕ
round_count zero = 12
round_count (suc zero) = 10
round_count (suc (suc zero)) = 6
round_count (suc (suc (suc j))) = 4

-- "The input's upper h bits are l, its lower h bits r; K starts as the key." The input has 2h bits.
unfoldable pub start : ℕ → ℕ → ℕ → Halves
start h key x = record { l = x / 2 ^ h % 2 ^ h; r = x % 2 ^ h; key = key }

-- "u = r xor the low 32 bits of K; w = (K's high 32 bits) with bit 0 set; p = u × w, below 2^64; f = the low h bits
-- of (low 32 bits + high 32 bits of p)": f
unfoldable pub round_function : ℕ → ℕ → ℕ → ℕ
round_function h r K =
    let u = bit_xor r (K % 2 ^ 32) in
    let w = bit_or (K / 2 ^ 32) 1 in
    let p = u * w in
    (p % 2 ^ 32 + p / 2 ^ 32) % 2 ^ h

-- "K becomes K rotated right by 2h, plus 0x9E3779B97F4A7C15, modulo 2^64."
unfoldable pub next_key : ℕ → ℕ → ℕ
next_key h K = (rotate_right K (2 * h) + 0x9E37_79B9_7F4A_7C15) % 2 ^ 64

-- "The new l is the old r, the new r is l xor f."
unfoldable pub round : ℕ → Halves → Halves
round h s = record { l = s.r; r = bit_xor s.l (round_function h s.r s.key); key = next_key h s.key }

-- n rounds
unfoldable pub rounds : ℕ → ℕ → Halves → Halves
rounds h zero s = s
rounds h (suc n) s = rounds h n (round h s)

-- "After the last round the output is l over r."
unfoldable pub over : ℕ → Halves → ℕ
over h s = s.l * 2 ^ h + s.r

-- Layer j under a key, with "h = j+1 .. the half's bits"
unfoldable pub layer : ℕ → ℕ → ℕ → ℕ
layer j key x =
    let h = j + 1 in
    over h (rounds h (round_count j) (start h key x))

-- "the two top output bits", of the 2j+2
unfoldable pub top_bits : ℕ → ℕ → ℕ
top_bits j y = y / 2 ^ (2 * j)
