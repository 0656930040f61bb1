-- Which bucket is the next one up, by the lowest bit of what is left.
-- Assumes nothing.
use mathlib.Core.Path.{◌≡◌, sym, ap, ◌∙◌}
use Prim.Native.Nat.{ℕ, ◌+◌, ◌-◌, ◌/◌, ◌%◌, ◌^◌, ◌≤◌, ◌<◌}
use native.Mathlib.Nat.{mod-lt, add-mod_right, mod-mod}
use native.Mathlib.Omega.{arith}
use lib.Pow.{pow_pos, pow_mono, shr-shr, split}
use Rattle.lists.proofs.Tests.{by_below}
use Rattle.lists.proofs.Places.{Lowest, bit_mod, below_lowest}
use Rattle.hashes.specs.InnerSearch.{NextSet}
use Rattle.hashes.proofs.StateLaws.{set_yes, set_no}

-- the state's 63 bits, and bit 63 to end with
abbrev pub ended : ℕ → ℕ
ended s = s % 2 ^ 63 + 2 ^ 63

ended_bit : (s i : ℕ) → i < 63 → ended s / 2 ^ i % 2 ≡ s / 2 ^ i % 2
ended_bit s i h =
    let e : ended s % 2 ^ 63 ≡ s % 2 ^ 63 = add-mod_right (s % 2 ^ 63) (2 ^ 63) ∙ mod-mod s (2 ^ 63) in
    sym (bit_mod (ended s) i 63 h) ∙ ap (λ (x : ℕ). x / 2 ^ i % 2) e ∙ bit_mod s i 63 h

ended_top : (s : ℕ) → ended s / 2 ^ 63 % 2 ≡ 1
ended_top s = omega arith

-- bit i of what is left from bit k on
left_bit : (a k i : ℕ) → k ≤ i → a / 2 ^ k / 2 ^ (i - k) % 2 ≡ a / 2 ^ i % 2
left_bit a k i h = let e : k + (i - k) ≡ i = omega arith in ap (λ (x : ℕ). x % 2) (rw e at (shr-shr a k (i - k)))

pub left_pos : (s k : ℕ) → k ≤ 63 → 0 < ended s / 2 ^ k
left_pos s k h =
    let m : 2 ^ k ≤ 2 ^ 63 = pow_mono h in
    by_below 0 (ended s / 2 ^ k) (λ p. p) (λ p. let e : ended s / 2 ^ k ≡ 0 = omega arith in absurd (omega (arith, rw e at (split (ended s) k), mod-lt (ended s) {m = 2 ^ k} (pow_pos k))))

pub next_place : (s k t : ℕ) → k ≤ 63 → Lowest 64 (ended s / 2 ^ k) t → NextSet s k (k + t)
next_place s k t h l = record {
  from = omega arith;
  to = inside;
  clear = λ i p q. set_no s i (sym (ended_bit s i (omega (arith, inside))) ∙ zero_at i p q);
  set = λ p. set_yes s (k + t) (sym (ended_bit s (k + t) p) ∙ one_at);
}
  where
    zero_at : (i : ℕ) → k ≤ i → i < k + t → ended s / 2 ^ i % 2 ≡ 0
    zero_at i p q = sym (left_bit (ended s) k i p) ∙ below_lowest 64 (ended s / 2 ^ k) t (i - k) l (omega arith)

    one_at : ended s / 2 ^ (k + t) % 2 ≡ 1
    one_at = let e : k + t - k ≡ t = omega arith in sym (left_bit (ended s) k (k + t) (omega arith)) ∙ rw e l.one

    inside : k + t ≤ 63
    inside = by_below 63 (k + t) (λ p. absurd (omega (arith, zero_at 63 h p, ended_top s))) (λ p. p)
