-- The k-th output of a layer with top bits 00: stretches of inputs are passed whole, and the last is gone through. And the climb from layer to
-- layer that asks for it.
-- Assumes nothing.
use mathlib.Core.Path.{◌≡◌, refl, sym, ap, ◌∙◌}
use mathlib.Core.Bool.{Bool}
use mathlib.Core.List.{List, [], ◌∷◌, ◌++◌}
use Prim.Native.Nat.{ℕ, zero, suc, ◌+◌, ◌-◌, ◌^◌, ◌<◌, ◌≤◌}
use native.Mathlib.Nat.{add-zero, one-le-pow}
use native.Mathlib.Omega.{arith}
use lib.ListN.{length, length-take}
use Rattle.lists.specs.Lists.{below, count_below, up_to}
use Rattle.lists.proofs.Prefixes.{up_to_take, up_to_past}
use Rattle.layers.specs.Layer.{size, layer}
use Rattle.orders.specs.Reservoirs.{outputs, up_to_zeros, L}
use Rattle.orders.specs.InnerPasses.{outs, inputs_from, climb}
use Rattle.orders.specs.Orders.{zero_top}
use Rattle.orders.proofs.LogLaws.{size_suc}
use Rattle.orders.proofs.OrderLaws.{zero_top_lem, outputs_order}
use Rattle.orders.proofs.CoverLaws.{length_outs}

outs_append : (key i x a b : ℕ) → outs key i x (a + b) ≡ outs key i x a ++ outs key i (x + a) b
outs_append key i x zero b =
    let e : 0 + b ≡ b = omega arith in
    rw (e, add-zero x)
outs_append key i x (suc a) b =
    let e : suc x + a ≡ x + suc a = omega arith in
    let n : suc a + b ≡ suc (a + b) = omega arith in
    ap (outs key i x) n ∙ ap (λ (l : List ℕ). layer i key x ∷ l) (outs_append key i (suc x) a b ∙ ap (λ (y : ℕ). outs key i (suc x) a ++ outs key i y b) e)

some_up_to : (p : ℕ → Bool) (k : ℕ) (xs : List ℕ) → 0 < length xs → 0 < length (up_to p (suc k) xs)
some_up_to p k [] h = h
some_up_to p k (x ∷ xs) h = omega arith

module _ (key i : ℕ) where
  -- the code's test of top bits 00
  pub zeros_below : (k : ℕ) → L key i k ≡ length (up_to (below (4 ^ i)) k (outputs key i))
  unfolding up_to_zeros
  zeros_below k = ap (λ (p : ℕ → Bool). length (up_to p k (outputs key i))) (zero_top_lem i)

  pub zeros_start : (k : ℕ) → inputs_from key i 0 k ≡ L key i k
  zeros_start k =
      let e : size i - 0 ≡ size i = omega arith in
      rw e (omega (arith, zeros_below k))

  -- a stretch of w inputs with fewer of them
  pub stretch_past : (w l x c x' : ℕ) {s : ℕ} → x' ≡ x + w → x' ≤ size i → c ≡ count_below (4 ^ i) (outs key i x w) → c < l
      → inputs_from key i x l ≡ s → inputs_from key i x' (l - c) ≡ s
  stretch_past w l x c x' {s} ex h ez f inv =
      let p = below (4 ^ i) in
      let n : size i - x ≡ w + (size i - x') = omega arith in
      let parts : outs key i x (size i - x) ≡ outs key i x w ++ outs key i x' (size i - x') =
      ap (outs key i x) n ∙ outs_append key i x w (size i - x') ∙ ap (λ (y : ℕ). outs key i x w ++ outs key i y (size i - x')) (sym ex) in
      let past : length (up_to p l (outs key i x w ++ outs key i x' (size i - x'))) ≡ length (outs key i x w) + length (up_to p (l - count_below (4 ^ i) (outs key i x w)) (outs key i x' (size i - x'))) =
      up_to_past p l (outs key i x w) (outs key i x' (size i - x')) (omega (arith, ez)) in
      omega (arith, inv, ap (λ (ys : List ℕ). length (up_to p l ys)) parts, past, length_outs key i x w, ap (λ (c : ℕ). length (up_to p (l - c) (outs key i x' (size i - x')))) ez)

  -- there is at least one input, and they are no more than the layer has
  pub some_inputs : (k : ℕ) → 0 < L key i (suc k)
  unfolding up_to_zeros
  some_inputs k = some_up_to (zero_top i) k (outputs key i) (omega (arith, (outputs_order key i).size, one-le-pow i 4 (omega arith)))

  pub inputs_fit : (k : ℕ) → L key i k ≤ size i
  unfolding up_to_zeros
  inputs_fit k =
      let ys : List ℕ = up_to (zero_top i) k (outputs key i) in
      omega (arith, ap length (up_to_take (zero_top i) k (outputs key i)), length-take (length ys) (outputs key i), (outputs_order key i).size, size_suc i)

  -- ---- a turn of the climb

  pub climb_turn : (t c : ℕ) → 0 < c → climb key i t c ≡ climb key (i + 1) (L key (i + 1) (t + 1) - 1) (c - 1)
  unfolding climb
  climb_turn t zero h = absurd (omega arith)
  climb_turn t (suc c) h =
      let a : suc i ≡ i + 1 = omega arith in
      let b : suc t ≡ t + 1 = omega arith in
      let d : suc c - 1 ≡ c = omega arith in
      rw (a, b, d) refl
