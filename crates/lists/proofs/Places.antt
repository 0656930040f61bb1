-- Bits of a word by their places: masks, the low bits by one more, the highest and the lowest bit that is set.
-- Assumes nothing.
use mathlib.Core.Path.{◌≡◌, refl, sym, ap, ◌∙◌}
use mathlib.Core.Logic.{◌⊎◌, inl, inr}
use Prim.Native.Nat.{ℕ, zero, suc, ◌+◌, ◌-◌, ◌*◌, ◌/◌, ◌%◌, ◌^◌, ◌≤◌, ◌<◌}
use native.Mathlib.Nat.{mod-lt, mod-eq_of_lt, zero-div}
use native.Mathlib.Omega.{arith}
use lib.Count.{count_leading_zeros, count_trailing_zeros, leading_top, under}
use lib.Pow.{pow_pos, pow_mono, mod-pow-add, mod-mod-pow, shr-shr, field, high, ones_lt, ones_split}
use lib.Bits.{bit_and, and_mask}
use Rattle.lists.proofs.Numbers.{one_shl}
use Rattle.lists.proofs.Tests.{by_below}

-- `x & ((1 << h) - 1)` in a word of w bits
pub masked : (w x h : ℕ) → h < w → bit_and x ((1 * 2 ^ h) % 2 ^ w - 1) ≡ x % 2 ^ h
masked w x h l = rw (one_shl w h l) (and_mask x h)

pub less_pow : (j k : ℕ) → 2 ^ j < 2 ^ k → j < k
less_pow j k h = by_below j k (λ p. p) (λ p. let m : 2 ^ k ≤ 2 ^ j = pow_mono p in absurd (omega arith))

-- a word of w ones, shifted right
pub ones_shr : (w z : ℕ) → z ≤ w → (2 ^ w - 1) / 2 ^ z ≡ 2 ^ (w - z) - 1
ones_shr w z h =
    let q : (w - z) + z ≡ w = omega arith in
    ap (λ (y : ℕ). y / 2 ^ z) (rw q at (ones_split (w - z) z)) ∙ high (2 ^ (w - z) - 1) z (ones_lt z)

-- ---- the low bits of s, by one bit more

bits_suc : (s k : ℕ) → s % 2 ^ suc k ≡ (s / 2 ^ k % 2) * 2 ^ k + s % 2 ^ k
bits_suc s k = let e : 1 + k ≡ suc k = omega arith in rw e at (mod-pow-add s 1 k)

bit_cases : (s k : ℕ) → ((s / 2 ^ k % 2 ≡ 0) × (s % 2 ^ suc k ≡ s % 2 ^ k)) ⊎ ((s / 2 ^ k % 2 ≡ 1) × (s % 2 ^ suc k ≡ 2 ^ k + s % 2 ^ k))
bit_cases s k =
    by_below (s / 2 ^ k % 2) 1
    (λ p. let e : s / 2 ^ k % 2 ≡ 0 = omega arith in inl (e, omega (arith, rw e at (bits_suc s k))))
    (λ p. let e : s / 2 ^ k % 2 ≡ 1 = omega (arith, mod-lt (s / 2 ^ k) {m = 2} (omega arith)) in inr (e, omega (arith, rw e at (bits_suc s k))))

-- bit k by the low k+1 bits
pub bit_set : (s k : ℕ) → 2 ^ k ≤ s % 2 ^ suc k → s / 2 ^ k % 2 ≡ 1
bit_set s k h = go (bit_cases s k)
  where
    go : ((s / 2 ^ k % 2 ≡ 0) × (s % 2 ^ suc k ≡ s % 2 ^ k)) ⊎ ((s / 2 ^ k % 2 ≡ 1) × (s % 2 ^ suc k ≡ 2 ^ k + s % 2 ^ k)) → s / 2 ^ k % 2 ≡ 1
    go (inl p) = absurd (omega (arith, p.1, mod-lt s {m = 2 ^ k} (pow_pos k)))
    go (inr p) = p.0

pub bit_clear : (s k : ℕ) → s % 2 ^ suc k < 2 ^ k → (s / 2 ^ k % 2 ≡ 0) × (s % 2 ^ suc k ≡ s % 2 ^ k)
bit_clear s k h = go (bit_cases s k)
  where
    go : ((s / 2 ^ k % 2 ≡ 0) × (s % 2 ^ suc k ≡ s % 2 ^ k)) ⊎ ((s / 2 ^ k % 2 ≡ 1) × (s % 2 ^ suc k ≡ 2 ^ k + s % 2 ^ k)) → (s / 2 ^ k % 2 ≡ 0) × (s % 2 ^ suc k ≡ s % 2 ^ k)
    go (inl p) = p
    go (inr p) = absurd (omega (arith, p.1))

-- the low k bits, where they are below 2^j, are the low j bits
pub bits_same : (s j k : ℕ) → j ≤ k → s % 2 ^ k < 2 ^ j → s % 2 ^ k ≡ s % 2 ^ j
bits_same s j k h e =
    let q : (k - j) + j ≡ k = omega arith in
    sym (mod-eq_of_lt e) ∙ (rw q at (mod-mod-pow s (k - j) j))

-- a bit of the low bits is the word's own
pub bit_mod : (x i w : ℕ) → i < w → x % 2 ^ w / 2 ^ i % 2 ≡ x / 2 ^ i % 2
bit_mod x i w h =
    let q : (w - i) + i ≡ w = omega arith in
    let r : (w - i - 1) + 1 ≡ w - i = omega arith in
    ap (λ (y : ℕ). y % 2) (rw q at (field x (w - i) i)) ∙ (rw r at (mod-mod-pow (x / 2 ^ i) (w - i - 1) 1))

-- ---- the highest bit, by leading zeros

pub highest_place : (w x : ℕ) → 0 < x → x < 2 ^ w → (count_leading_zeros w x < w) × (2 ^ (w - 1 - count_leading_zeros w x) ≤ x) × (x < 2 ^ suc (w - 1 - count_leading_zeros w x))
highest_place w x p h = go (leading_top w x p h)
  where
    go : (j : ℕ) × (count_leading_zeros w x + suc j ≡ w) × (2 ^ j ≤ x) × (x < 2 ^ suc j) → (count_leading_zeros w x < w) × (2 ^ (w - 1 - count_leading_zeros w x) ≤ x) × (x < 2 ^ suc (w - 1 - count_leading_zeros w x))
    go t = let e : w - 1 - count_leading_zeros w x ≡ t.0 = omega (arith, t.1) in rw e (omega (arith, t.1), t.2, t.3)

-- ---- the lowest bit, by trailing zeros

pub record Lowest (k a t : ℕ) : Type 0 where
  pub inside : t < k
  pub zeros : a % 2 ^ t ≡ 0
  pub one : a / 2 ^ t % 2 ≡ 1

lowest_by : (k a d : ℕ) → a % 2 ≡ d → 0 < a → (0 < a / 2 → Lowest k (a / 2) (count_trailing_zeros k (a / 2))) → Lowest (suc k) a (under d (count_trailing_zeros k (a / 2)))
lowest_by k a zero e p ih =
    let r = ih (omega arith) in
    let t = count_trailing_zeros k (a / 2) in
    let left : t + 1 ≡ suc t = omega arith in
    let right : 1 + t ≡ suc t = omega arith in
    let low : a % 2 ^ suc t ≡ (a / 2 % 2 ^ t) * 2 + a % 2 = rw left at (mod-pow-add a t 1) in
    let high : a / 2 / 2 ^ t ≡ a / 2 ^ suc t = rw right at (shr-shr a 1 t) in
    let zero-low : a % 2 ^ suc t ≡ 0 = omega (arith, r.zeros) in
    record {
      inside = omega (arith, r.inside);
      zeros = zero-low;
      one = ap (λ (x : ℕ). x % 2) (sym high) ∙ r.one;
    }
lowest_by k a (suc d) e p ih = record { inside = omega arith; zeros = omega arith; one = omega (arith, mod-lt a {m = 2} (omega arith)) }

pub lowest_place : (k a : ℕ) → 0 < a → a < 2 ^ k → Lowest k a (count_trailing_zeros k a)
unfolding count_trailing_zeros
lowest_place zero a p h = absurd (omega arith)
lowest_place (suc k) a p h = lowest_by k a (a % 2) refl p (λ q. lowest_place k (a / 2) q (omega arith))

-- no bit below it is set
pub below_lowest : (k a t i : ℕ) → Lowest k a t → i < t → a / 2 ^ i % 2 ≡ 0
below_lowest k a t i l h = sym (bit_mod a i t h) ∙ rw (l.zeros, zero-div)
