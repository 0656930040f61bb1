-- A layer's numbers, as code works them out.
-- Assumes nothing.
use Rattle.std.proofs.Common.{◌≡◌, ℕ, zero, suc, ◌+◌, ◌*◌, ◌/◌, ◌%◌, ◌^◌, ◌≤◌, ◌<◌, sym, ap, ◌∙◌, arith, one-mul}
use Rattle.std.proofs.Math.Pow.{shl_exact}
use Rattle.lists.proofs.Numbers.{four_pow_double}
use Rattle.layers.specs.Layer.{bits, size, round_count}

-- "Let h = j+1 be the half's bits."
pub half : (j : ℕ) → bits j / 2 ≡ j + 1
half j = omega arith

-- no layer has fewer than four rounds
pub four_rounds : (j : ℕ) → 4 ≤ round_count j
four_rounds zero = omega arith
four_rounds (suc zero) = omega arith
four_rounds (suc (suc zero)) = omega arith
four_rounds (suc (suc (suc j))) = omega arith

-- `1 << bits` in a word of 32 bits
pub size_shl : (j : ℕ) → j < 15 → (1 * 2 ^ bits j) % 2 ^ 32 ≡ size j
size_shl j h =
    let e : 2 * (j + 1) ≡ bits j = omega arith in
    shl_exact {a = 1} 1 (bits j) 32 (omega arith) (omega arith) ∙ one-mul _ ∙ ap (λ (n : ℕ). 2 ^ n) (sym e) ∙ sym (four_pow_double (j + 1))
