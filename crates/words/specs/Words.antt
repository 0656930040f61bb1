-- Words of 64 bits, as document 01 uses them under "Layer" and "Hashes".
-- Assumes nothing.
use Rattle.std.specs.Prelude.{ℕ, ◌+◌, ◌-◌, ◌*◌, ◌/◌, ◌%◌, ◌^◌, bit_xor}

-- "×", "all modulo 2^64"
unfoldable pub wrapping_mul : ℕ → ℕ → ℕ
wrapping_mul a b = (a * b) % 2 ^ 64

-- "rotated right by": the low bits of x go to the top, the others move down. A rotation by 64 is none, so that the
-- number of places counts modulo 64.
unfoldable pub rotate_right : ℕ → ℕ → ℕ
rotate_right x places =
    let s = places % 64 in
    x / 2 ^ s + (x % 2 ^ s) * 2 ^ (64 - s)

-- "mix is `splitmix64`: z = v + 0x9E3779B97F4A7C15; z = (z xor z>>30) × 0xBF58476D1CE4E5B9;
-- z = (z xor z>>27) × 0x94D049BB133111EB; z xor z>>31; all modulo 2^64"
unfoldable pub mix : ℕ → ℕ
mix v =
    let z = (v + 0x9E37_79B9_7F4A_7C15) % 2 ^ 64 in
    let y = wrapping_mul (bit_xor z (z / 2 ^ 30)) 0xBF58_476D_1CE4_E5B9 in
    let x = wrapping_mul (bit_xor y (y / 2 ^ 27)) 0x94D0_49BB_1331_11EB in
    bit_xor x (x / 2 ^ 31)
