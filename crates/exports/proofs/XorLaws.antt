-- The xor of a run of outputs, or of inputs.
-- Assumes nothing.
use mathlib.Core.Path.{◌≡◌, refl, ap}
use Prim.Native.Nat.{ℕ, ◌+◌, ◌^◌, ◌≤◌, ◌<◌}
use native.Mathlib.Omega.{arith}
use borrow.Author.Tests.{lt-leb, le-leb}
use native.Mathlib.Numerals.{add-one}
use lib.Bits.{bit_xor}
use lib.Dec.{leb}
use mathlib.Core.Bool.{cond, ◌&&◌}
use Rattle.answers.specs.Answers.{Answer, refusal, result}
use Rattle.lists.proofs.Tests.{by_below}
use Rattle.layers.specs.declared.KeyedLayer.{KeyedLayer}
use Rattle.layers.specs.Layer.{size}
use Rattle.layers.specs.KeyedLayers.{keyed_layer, keyed}
use Rattle.layers.proofs.CallLaws.{keyed_in, keyed_out}
use Rattle.exports.specs.Coded.{coded_number, xors}

pub xors_step : (f : ℕ → ℕ) (n : ℕ) → bit_xor (xors f n) (f n) ≡ xors f (n + 1)
unfolding xors
xors_step f n = rw (add-one n)

-- of a layer's outputs, or of its inputs
module _ (g : ℕ → ℕ) where
  -- what it says of n values of layer j
  abbrev pub within : ℕ → ℕ → Answer ℕ
  within j n = cond (leb j 14 && leb n (size j)) (result (xors g n)) (refusal 12)

  -- the record that was made, and n within its size
  pub made : (j key n : ℕ) (f : KeyedLayer) (y : ℕ) → keyed j key ≡ result f → n ≤ f.size → (j ≤ 14 → f ≡ keyed_layer j key → n ≤ size j → y ≡ xors g n)
      → y ≡ coded_number (within j n)
  made j key n f y e s p =
      by_below 14 j
      (λ (h : 14 < j). let q = keyed_out j key h in let z : ◌≡◌ {A = ℕ} 0 1 = cc in absurd (omega arith))
      (λ (h : j ≤ 14). let q = keyed_in j key h in
      let e' : f ≡ keyed_layer j key = cc in
      let d : n ≤ size j = omega (arith, s, ap (λ (t : KeyedLayer). t.size) e') in
      rw (le-leb j 14 h, le-leb n (size j) d) (p h e' d))

  -- the record that was made, and n above its size
  pub too_many : (j key n : ℕ) (f : KeyedLayer) → keyed j key ≡ result f → f.size < n → 2 ^ 63 + 12 ≡ coded_number (within j n)
  too_many j key n f e s =
      by_below 14 j
      (λ (h : 14 < j). let q = keyed_out j key h in let z : ◌≡◌ {A = ℕ} 0 1 = cc in absurd (omega arith))
      (λ (h : j ≤ 14). let q = keyed_in j key h in
      let e' : f ≡ keyed_layer j key = cc in
      let d : size j < n = omega (arith, s, ap (λ (t : KeyedLayer). t.size) e') in
      rw (le-leb j 14 h, lt-leb n (size j) d) refl)

  pub not_made : (j key n c : ℕ) → keyed j key ≡ refusal c → 2 ^ 63 + c ≡ coded_number (within j n)
  not_made j key n c e =
      by_below 14 j
      (λ (h : 14 < j). let q = keyed_out j key h in let e' : c ≡ 12 = cc in rw (lt-leb j 14 h, e'))
      (λ (h : j ≤ 14). let q = keyed_in j key h in let z : ◌≡◌ {A = ℕ} 0 1 = cc in absurd (omega arith))
