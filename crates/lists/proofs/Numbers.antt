-- Numbers and their bits: products, powers, xor.
-- Assumes nothing.
use mathlib.Core.Path.{◌≡◌, refl, sym, ap, ap₂, ◌∙◌}
use Prim.Native.Nat.{ℕ, zero, suc, ◌+◌, ◌*◌, ◌/◌, ◌%◌, ◌^◌, ◌<◌}
use native.Mathlib.Nat.{le_of_lt, lt_of_le_of_lt, mul-le-mul_left, mul-lt-mul_of_pos_right, one-mul, mod-lt, pow-suc, div-add-mod'}
use native.Mathlib.Omega.{arith}
use lib.Arith.{bin_ind}
use lib.Pow.{pow_pos, pow-add, shl_exact}
use lib.Bits.{bit_xor, differ, xor_step, xor_shr, xor_mod, xor_self}

-- the product of two numbers of k bits has at most k + k
pub mul_lt_pow : (k : ℕ) {a b : ℕ} → a < 2 ^ k → b < 2 ^ k → a * b < 2 ^ (k + k)
mul_lt_pow k {a} {b} ha hb =
    rw (pow-add 2 k k) (lt_of_le_of_lt (mul-le-mul_left a (le_of_lt hb)) (mul-lt-mul_of_pos_right ha (pow_pos k)))

-- `1 << h` in a word of w bits
pub one_shl : (w h : ℕ) → h < w → (1 * 2 ^ h) % 2 ^ w ≡ 2 ^ h
one_shl w h l = shl_exact {a = 1} 1 h w (omega arith) (omega arith) ∙ one-mul (2 ^ h)

-- a number of h base-4 digits has two halves of h bits
pub four_pow : (h : ℕ) → 4 ^ h ≡ 2 ^ h * 2 ^ h
four_pow zero = refl
four_pow (suc h) =
    let e : (2 ^ h * 2) * (2 ^ h * 2) ≡ 2 ^ h * 2 ^ h * 4 = omega arith in
    rw (pow-suc 4 h, pow-suc 2 h, four_pow h) (sym e)

pub four_pow_double : (h : ℕ) → 4 ^ h ≡ 2 ^ (2 * h)
four_pow_double h =
    let e : h + h ≡ 2 * h = omega arith in
    four_pow h ∙ sym (pow-add 2 h h) ∙ ap (λ (n : ℕ). 2 ^ n) e

-- ---- xor undoes itself

bit_cancel : (x y : ℕ) → x < 2 → y < 2 → differ (bit_xor x y) y ≡ x
bit_cancel zero zero p q = refl
bit_cancel zero (suc zero) p q = refl
bit_cancel zero (suc (suc y)) p q = absurd (omega arith)
bit_cancel (suc zero) zero p q = refl
bit_cancel (suc zero) (suc zero) p q = refl
bit_cancel (suc zero) (suc (suc y)) p q = absurd (omega arith)
bit_cancel (suc (suc x)) y p q = absurd (omega arith)

pub xor_cancel : (a b : ℕ) → bit_xor (bit_xor a b) b ≡ a
xor_cancel a =
    bin_ind (λ (n : ℕ). (b : ℕ) → bit_xor (bit_xor n b) b ≡ n) xor_self
    (λ n ih b. xor_step (bit_xor n b) b
    ∙ ap₂ (λ (x y : ℕ). x * 2 + y) (ap (λ (m : ℕ). bit_xor m (b / 2)) (xor_shr n b 1) ∙ ih (b / 2))
    (ap (λ (m : ℕ). differ m (b % 2)) (xor_mod n b 1) ∙ bit_cancel (n % 2) (b % 2) (mod-lt n (pow_pos 1)) (mod-lt b (pow_pos 1)))
    ∙ div-add-mod' n 2) a
