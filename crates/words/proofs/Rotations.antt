-- A rotation as two shifts, and taken back.
-- Assumes nothing.
use Rattle.std.proofs.Common.{◌≡◌, ℕ, zero, suc, ◌+◌, ◌-◌, ◌*◌, ◌/◌, ◌%◌, ◌^◌, ◌<◌, ◌≤◌, sym, ap, ◌∙◌, add-zero, le_of_lt, mod-eq_of_lt, add_comm, mul-one, div-one, arith, mod-lt, pow_pos}
use native.Mathlib.Nat.{mul-mod_left}
use lib.Arith.{digits_lt}
use lib.Pow.{pow-add, shr_lt, split, high, low, mod-pow-add, shl-shr}
use lib.Bits.{bit_or, or_shifted_r, or_self}
use Rattle.words.specs.Words.{rotate_right}

-- what `x << (64 - s)` keeps: the low s bits, moved to the top
kept : (x s : ℕ) → s ≤ 64 → (x * 2 ^ (64 - s)) % 2 ^ 64 ≡ x % 2 ^ s * 2 ^ (64 - s)
kept x s h =
    let e : s + (64 - s) ≡ 64 = omega arith in
    (λ i. (x * 2 ^ (64 - s)) % 2 ^ (sym e i)) ∙ mod-pow-add (x * 2 ^ (64 - s)) s (64 - s)
    ∙ rw (shl-shr x (64 - s), mul-mod_left x (2 ^ (64 - s))) (add-zero _)

turned : (x s : ℕ) → s < 64 → x < 2 ^ 64 → bit_or (x / 2 ^ s) ((x * 2 ^ (64 - s)) % 2 ^ 64) ≡ x / 2 ^ s + x % 2 ^ s * 2 ^ (64 - s)
turned x s h hx =
    let e : (64 - s) + s ≡ 64 = omega arith in
    let b : x / 2 ^ s < 2 ^ (64 - s) = shr_lt (64 - s) s (rw e hx) in
    ap (bit_or (x / 2 ^ s)) (kept x s (le_of_lt h)) ∙ or_shifted_r (x % 2 ^ s) (64 - s) (x / 2 ^ s) b ∙ add_comm _ _

-- where s is 0 nothing is shifted either way
pub by_shifts : (x s : ℕ) → s < 64 → x < 2 ^ 64
    → bit_or (x / 2 ^ s) ((x * 2 ^ ((64 - s) % 64)) % 2 ^ 64) ≡ x / 2 ^ s + x % 2 ^ s * 2 ^ (64 - s)
by_shifts x zero h hx =
    let e : x % 2 ^ 64 ≡ x = mod-eq_of_lt hx in
    rw (mul-one, e, div-one, or_self) (omega arith)
by_shifts x (suc s) h hx =
    let e : (64 - suc s) % 64 ≡ 64 - suc s = omega arith in
    rw e (turned x (suc s) h hx)

-- ---- a rotated word is a word

pub turned_lt : (x places : ℕ) → x < 2 ^ 64 → rotate_right x places < 2 ^ 64
unfolding rotate_right
turned_lt x places hx =
    let s : ℕ = places % 64 in
    let e : s + (64 - s) ≡ 64 = omega arith in
    let f : (64 - s) + s ≡ 64 = omega arith in
    let b : x / 2 ^ s < 2 ^ (64 - s) = shr_lt (64 - s) s (rw f hx) in
    let d : x % 2 ^ s * 2 ^ (64 - s) + x / 2 ^ s < 2 ^ s * 2 ^ (64 - s) = digits_lt (mod-lt x (pow_pos s)) b in
    let n : 2 ^ s * 2 ^ (64 - s) ≡ 2 ^ 64 = sym (pow-add 2 s (64 - s)) ∙ ap (λ (i : ℕ). 2 ^ i) e in
    omega (arith, d, n)

-- ---- s places to the right, then the rest of the 64

pub turned_back : (x s : ℕ) → s < 64 → x < 2 ^ 64 → rotate_right (rotate_right x s) (64 - s) ≡ x
unfolding rotate_right
turned_back x zero h hx = omega arith
turned_back x (suc k) h hx =
    let s : ℕ = suc k in
    let t : ℕ = 64 - s in
    let first : s % 64 ≡ s = omega arith in
    let second : t % 64 ≡ t = omega arith in
    let rest : 64 - t ≡ s = omega arith in
    let f : t + s ≡ 64 = omega arith in
    let b : x / 2 ^ s < 2 ^ t = shr_lt t s (rw f hx) in
    let e : x / 2 ^ s + x % 2 ^ s * 2 ^ t ≡ x % 2 ^ s * 2 ^ t + x / 2 ^ s = add_comm _ _ in
    rw (first, second, rest, e, high (x % 2 ^ s) t b, low (x % 2 ^ s) t b) (add_comm _ _ ∙ split x s)
