-- Places that hold a sample and its sequence's own value: what is kept is what is asked for; and S(k, n) in the first places.
-- Assumes nothing.
use mathlib.Core.Path.{◌≡◌, sym, ap, ◌∙◌}
use mathlib.Core.List.{List}
use Prim.Native.Nat.{ℕ, ◌+◌, ◌*◌, ◌/◌, ◌%◌, ◌^◌, ◌≤◌, ◌<◌}
use native.Mathlib.Omega.{arith}
use lib.ListN.{get_or, take}
use lib.Seq.{get_or-take}
use Rattle.choosers.specs.Choosers.{g, S}
use Rattle.choosers.specs.InnerHolding.{Beside, lows, Rises}
use Rattle.choosers.proofs.SampleLaws.{g_same, length_S, S_ascending}

module _ (s : ℕ) where
  -- a value kept is the value asked for
  pub own_is : (e i m : ℕ) → i < m → m ≤ e % 2 ^ 32 → Beside s i e → e / 2 ^ 32 < m → e / 2 ^ 32 ≡ g s i m
  own_is e i m h l o p = o ∙ sym (g_same s i m (e % 2 ^ 32 + 1) h (omega arith) (omega arith))

  -- a value put beside the sample b
  pub beside : (v b i : ℕ) → v ≤ b → b < 2 ^ 32 → v ≡ g s i (b + 1) → Beside s i (v * 2 ^ 32 + b)
  beside v b i p h e =
      let low : (v * 2 ^ 32 + b) % 2 ^ 32 ≡ b = omega arith in
      let high : (v * 2 ^ 32 + b) / 2 ^ 32 ≡ v = omega arith in
      rw (low, high) e

  -- ---- S(k, n) in the first k places

  module _ (k n : ℕ) (l : List ℕ) (h : k ≤ n) (e : take k (lows l) ≡ S s k n) where
    at_S : (a : ℕ) → a < k → get_or (S s k n) a 0 ≡ get_or (lows l) a 0
    at_S a p = ap (λ (z : List ℕ). get_or z a 0) (sym e) ∙ get_or-take k (lows l) a 0 p

    pub rises_S : Rises (lows l) k
    rises_S a b p q = rw (← at_S a (omega arith), ← at_S b q) ((S_ascending s k n h).rises a b p (omega (arith, length_S s k n)))

    pub below_S : (a : ℕ) → a < k → get_or (lows l) a 0 < n
    below_S a p = rw (← at_S a p) ((S_ascending s k n h).below a (omega (arith, length_S s k n)))
