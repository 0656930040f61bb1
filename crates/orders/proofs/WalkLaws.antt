-- The walk by counters: c numbers of layer j + 1 are its next c outputs, those with top bits 00 replaced, in order, by
-- numbers of layer j.
-- Assumes nothing.
use mathlib.Core.Path.{◌≡◌, refl, ap, ◌∙◌}
use mathlib.Core.Bool.{true, false, cond}
use mathlib.Core.List.{List, [], ◌∷◌}
use Prim.Native.Nat.{ℕ, zero, suc, ◌+◌, ◌<◌}
use native.Mathlib.Omega.{arith}
use native.Mathlib.Numerals.{add-one}
use lib.ListN.{length, set, length-set}
use lib.Seq.{get_or-set_same, get_or-set_other, set_comm}
use Rattle.lists.specs.Lists.{keep, replace}
use Rattle.lists.proofs.Tests.{by_test}
use Rattle.layers.specs.Layer.{layer}
use Rattle.orders.specs.Orders.{counter, output, counted, zero_top, draw, next_number, next_numbers}
use Rattle.orders.specs.InnerPasses.{outs}

-- how many of them have top bits 00
abbrev pub zeros : ℕ → ℕ → ℕ → ℕ → ℕ
zeros key j a c = length (keep (zero_top j) (outs key j a c))

module _ (key : ℕ) where
  -- ---- a counter of a higher layer is neither read nor written

  pub output_set : (j i v : ℕ) (cs : List ℕ) → j < i → output key j (set cs i v) ≡ output key j cs
  unfolding output
  output_set j i v cs h = ap (layer j key) (get_or-set_other cs i j v 0 (omega arith))

  pub counted_set : (j i v : ℕ) (cs : List ℕ) → j < i → counted j (set cs i v) ≡ set (counted j cs) i v
  unfolding counted
  counted_set j i v cs h = rw (get_or-set_other cs i j v 0 (omega arith)) (set_comm cs i j v (counter cs j + 1) (omega arith))

  pub next_set : (j i v : ℕ) (cs : List ℕ) → j < i → next_number key j (set cs i v) ≡ draw (next_number key j cs).number (set (next_number key j cs).counters i v)
  next_set zero i v cs h = rw (output_set 0 i v cs h, counted_set 0 i v cs h) refl
  next_set (suc j) i v cs h =
      rw (output_set (suc j) i v cs h, counted_set (suc j) i v cs h)
      (by_test (zero_top (suc j) (output key (suc j) cs))
      (λ y. rw y (next_set j i v (counted (suc j) cs) (omega arith)))
      (λ m. rw m refl))

  numbers_set : (j i v c : ℕ) (cs : List ℕ) → j < i → next_numbers key j c (set cs i v) ≡ next_numbers key j c cs
  numbers_set j i v zero cs h = refl
  numbers_set j i v (suc c) cs h =
      rw (next_set j i v cs h)
      (ap (λ (r : List ℕ). (next_number key j cs).number ∷ r) (numbers_set j i v c (next_number key j cs).counters h))

  pub next_length : (j : ℕ) (cs : List ℕ) → length (next_number key j cs).counters ≡ length cs
  unfolding counted
  next_length zero cs = length-set cs 0 (counter cs 0 + 1)
  next_length (suc j) cs =
      by_test (zero_top (suc j) (output key (suc j) cs))
      (λ y. rw y (next_length j (counted (suc j) cs) ∙ length-set cs (suc j) (counter cs (suc j) + 1)))
      (λ m. rw m (length-set cs (suc j) (counter cs (suc j) + 1)))

  -- ---- one number of layer j + 1, whose counter is a

  pub next_low : (j a : ℕ) (cs : List ℕ) → counter cs (suc j) ≡ a → zero_top (suc j) (layer (suc j) key a) ≡ true
      → next_number key (suc j) cs ≡ draw (next_number key j cs).number (set (next_number key j cs).counters (suc j) (suc a))
  unfolding output counted
  next_low j a cs e y = rw (e, y, add-one a) (next_set j (suc j) (suc a) cs (omega arith))

  pub next_high : (j a : ℕ) (cs : List ℕ) → counter cs (suc j) ≡ a → zero_top (suc j) (layer (suc j) key a) ≡ false
      → next_number key (suc j) cs ≡ draw (layer (suc j) key a) (set cs (suc j) (suc a))
  unfolding output counted
  next_high j a cs e m = rw (e, m, add-one a) refl

  -- ---- c numbers

  pub numbers_suc : (j c a : ℕ) (cs : List ℕ) → counter cs (suc j) ≡ a → suc j < length cs
      → next_numbers key (suc j) c cs ≡ replace (zero_top (suc j)) (outs key (suc j) a c) (next_numbers key j (zeros key (suc j) a c) cs)
  numbers_suc j zero a cs e l = refl
  numbers_suc j (suc c) a cs e l =
      by_test (zero_top (suc j) (layer (suc j) key a))
      (λ y. let ds : List ℕ = (next_number key j cs).counters in
      rw (next_low j a cs e y, y)
      (ap (λ (r : List ℕ). (next_number key j cs).number ∷ r)
      (numbers_suc j c (suc a) (set ds (suc j) (suc a))
      (get_or-set_same ds (suc j) (suc a) 0 (omega (arith, next_length j cs)))
      (omega (arith, next_length j cs, length-set ds (suc j) (suc a)))
      ∙ ap (replace (zero_top (suc j)) (outs key (suc j) (suc a) c)) (numbers_set j (suc j) (suc a) (zeros key (suc j) (suc a) c) ds (omega arith)))))
      (λ m. rw (next_high j a cs e m, m)
      (ap (λ (r : List ℕ). layer (suc j) key a ∷ r)
      (numbers_suc j c (suc a) (set cs (suc j) (suc a))
      (get_or-set_same cs (suc j) (suc a) 0 l)
      (omega (arith, length-set cs (suc j) (suc a)))
      ∙ ap (replace (zero_top (suc j)) (outs key (suc j) (suc a) c)) (numbers_set j (suc j) (suc a) (zeros key (suc j) (suc a) c) cs (omega arith)))))

  pub numbers_zero : (c a : ℕ) (cs : List ℕ) → counter cs 0 ≡ a → 0 < length cs → next_numbers key 0 c cs ≡ replace (zero_top 0) (outs key 0 a c) []
  unfolding output counted
  numbers_zero zero a cs e l = refl
  numbers_zero (suc c) a cs e l =
      rw (e, add-one a)
      (ap (λ (r : List ℕ). cond (zero_top 0 (layer 0 key a)) 0 (layer 0 key a) ∷ r)
      (numbers_zero c (suc a) (set cs 0 (suc a)) (get_or-set_same cs 0 (suc a) 0 l) (omega (arith, length-set cs 0 (suc a)))
      ∙ by_test (zero_top 0 (layer 0 key a)) (λ y. rw y refl) (λ m. rw m refl)))
