-- The descent through the layers: what the next number of a layer is, clause by clause, and that the number alone tells
-- which counters were raised.
-- Assumes nothing.
use mathlib.Core.Path.{◌≡◌, refl, sym, ap, ◌∙◌, subst}
use mathlib.Core.Bool.{Bool, true, false}
use mathlib.Core.List.{List}
use Rattle.std.specs.Prelude.{None, Some}
use Prim.Native.Nat.{ℕ, zero, suc, ◌+◌, ◌-◌, ◌*◌, ◌%◌, ◌^◌, ◌≤◌, ◌<◌}
use native.Mathlib.Numerals.{add-one}
use native.Mathlib.Omega.{arith}
use borrow.Author.Tests.{le-leb, lt-leb}
use lib.ListN.{set}
use lib.Pow.{shl_exact}
use lib.Seq.{get_or-set_other}
use Rattle.lists.proofs.Numbers.{four_pow_double}
use Rattle.lists.proofs.Tests.{below_yes, below_no, not_below→le, by_test, by_below}
use Rattle.layers.specs.Layer.{size, layer}
use Rattle.layers.proofs.Permutes.{layer_lt}
use Rattle.orders.specs.Orders.{layer_of, counter, output, counted, zero_top, Draw, next_number}
use Rattle.orders.specs.OrderCalls.{meets}
use Rattle.orders.specs.InnerCounters.{raises, stop_of}
use Rattle.orders.proofs.LogLaws.{size_suc, layer_fits, layer_least, pow_up}
use Rattle.orders.proofs.WalkLaws.{output_set, next_set, next_low, next_high}
use Rattle.orders.proofs.OrderLaws.{zero_top_lem}
use Rattle.orders.proofs.CounterLaws.{raises_above, raises_snoc}

-- ---- top bits 00, by comparing with 4^j

pub top_yes : (j y : ℕ) → y < 4 ^ j → zero_top j y ≡ true
top_yes j y h = rw (zero_top_lem j) (below_yes y (4 ^ j) h)

pub top_no : (j y : ℕ) → 4 ^ j ≤ y → zero_top j y ≡ false
top_no j y h = rw (zero_top_lem j) (below_no y (4 ^ j) h)

top→le : (j y : ℕ) → zero_top j y ≡ false → 4 ^ j ≤ y
top→le j y e = not_below→le (sym (ap (λ (p : ℕ → Bool). p y) (zero_top_lem j)) ∙ e)

-- 4^j, as `1 << 2j` in a word of 32 bits
pub quarter_shl : (j : ℕ) → j < 15 → (1 * 2 ^ (2 * j)) % 2 ^ 32 ≡ 4 ^ j
quarter_shl j h = shl_exact {a = 1} 1 (2 * j) 32 (omega arith) (omega arith) ∙ rw (← four_pow_double j) (omega arith)

-- the layer that a number belongs to, 4^j ≤ y < 4^(j+1), is the layer of y + 1
pub layer_number : (j y : ℕ) → 4 ^ j ≤ y → y < 4 ^ suc j → layer_of (suc y) ≡ j
layer_number j y h l =
    by_below (layer_of (suc y)) j
    (λ u. absurd (omega (arith, layer_fits (suc y), pow_up (suc (layer_of (suc y))) j u)))
    (λ u. omega (arith, layer_least (suc y) j l))

-- the counters from layer l up to j raised, and that of layer j+1 besides
raise_last : (cs : List ℕ) (l j a : ℕ) → counter cs (suc j) ≡ a → l ≤ j → set (raises cs l (suc j - l)) (suc j) (suc a) ≡ raises cs l (suc (suc j) - l)
unfolding counted
raise_last cs l j a e h =
    let f : suc (suc j) - l ≡ suc (suc j - l) = omega arith in
    let g : l + (suc j - l) ≡ suc j = omega arith in
    rw (f, raises_snoc (suc j - l) l cs, g, raises_above (suc j - l) l (suc j) cs (omega arith), e, add-one a) refl

-- that of layer j+1 alone
raise_one : (cs : List ℕ) (j a : ℕ) → counter cs (suc j) ≡ a → set cs (suc j) (suc a) ≡ raises cs (suc j) (suc (suc j) - suc j)
unfolding counted
raise_one cs j a e =
    let f : suc (suc j) - suc j ≡ 1 = omega arith in
    rw (f, e, add-one a) refl

module _ (key : ℕ) where
  output_lt : (j x : ℕ) → layer j key x < 4 ^ suc j
  output_lt j x = omega (arith, layer_lt j key x, size_suc j)

  -- numbers of layer j are below 4^(j+1)
  pub number_lt : (j : ℕ) (cs : List ℕ) → (next_number key j cs).number < 4 ^ suc j
  unfolding output
  number_lt zero cs =
      by_test (zero_top 0 (layer 0 key (counter cs 0)))
      (λ y. rw y (omega arith))
      (λ m. rw m (output_lt 0 (counter cs 0)))
  number_lt (suc j) cs =
      by_test (zero_top (suc j) (layer (suc j) key (counter cs (suc j))))
      (λ y. rw y (omega (arith, number_lt j (counted (suc j) cs))))
      (λ m. rw m (output_lt (suc j) (counter cs (suc j))))

  -- ---- a counter of a higher layer plays no part in what a descent meets

  pub meets_set : (j i v : ℕ) (cs : List ℕ) → j < i → meets key j (set cs i v) ≡ meets key j cs
  meets_set zero i v cs h = rw (get_or-set_other cs i 0 v 0 (omega arith)) refl
  meets_set (suc j) i v cs h = rw (get_or-set_other cs i (suc j) v 0 (omega arith), output_set key (suc j) i v cs h, meets_set j i v cs (omega arith)) refl

  number_counted : (j i : ℕ) (cs : List ℕ) → j < i → (next_number key j (counted i cs)).number ≡ (next_number key j cs).number
  unfolding counted
  number_counted j i cs h = ap (λ (d : Draw). d.number) (next_set key j i (counter cs i + 1) cs h)

  -- ---- the next number of layer j, clause by clause

  -- its counter is at its size
  spent_is : (j : ℕ) (cs : List ℕ) → size j ≤ counter cs j → stop_of key j cs ≡ None
  unfolding stop_of
  spent_is zero cs h = rw (le-leb (size 0) (counter cs 0) h) refl
  spent_is (suc j) cs h = rw (le-leb (size (suc j)) (counter cs (suc j)) h) refl

  -- the output is not 00
  here_is : (j : ℕ) (cs : List ℕ) → counter cs j < size j → 4 ^ j ≤ layer j key (counter cs j) → stop_of key j cs ≡ Some (layer j key (counter cs j))
  unfolding stop_of output
  here_is zero cs h t = rw (lt-leb (size 0) (counter cs 0) h, top_no 0 (layer 0 key (counter cs 0)) t) refl
  here_is (suc j) cs h t = rw (lt-leb (size (suc j)) (counter cs (suc j)) h, top_no (suc j) (layer (suc j) key (counter cs (suc j))) t) refl

  -- it is 00 in layer 0
  zero_is : (j : ℕ) (cs : List ℕ) → j ≡ 0 → counter cs j < size j → layer j key (counter cs j) < 4 ^ j → stop_of key j cs ≡ Some 0
  unfolding stop_of output
  zero_is zero cs e h t = rw (lt-leb (size 0) (counter cs 0) h, top_yes 0 (layer 0 key (counter cs 0)) t) refl
  zero_is (suc j) cs e h t = absurd (omega arith)

  -- it is 00 above layer 0: the layer below gives the number
  down_is : (j : ℕ) (cs : List ℕ) → (j ≡ 0 → ⊥) → counter cs j < size j → layer j key (counter cs j) < 4 ^ j → stop_of key j cs ≡ stop_of key (j - 1) cs
  unfolding stop_of output
  down_is zero cs e h t = absurd (e refl)
  down_is (suc j) cs e h t =
      let p : suc j - 1 ≡ j = omega arith in
      rw (lt-leb (size (suc j)) (counter cs (suc j)) h, top_yes (suc j) (layer (suc j) key (counter cs (suc j))) t, number_counted j (suc j) cs (omega arith), p) refl

  -- the same with the code's variables: x the counter, s the layer's size, y its output, q what is below it 00
  module _ (j x s : ℕ) (cs : List ℕ) (counter-is : x ≡ counter cs j) (size_is : s ≡ size j) where
    pub stop_spent : s ≤ x → None ≡ stop_of key j cs
    stop_spent h = sym (spent_is j cs (omega arith))

    module _ (y q : ℕ) (room : x < s) (output-is : y ≡ layer j key x) (quarter-is : q ≡ 4 ^ j) where
      at_counter : layer j key (counter cs j) ≡ y
      at_counter = ap (layer j key) (sym counter-is) ∙ sym output-is

      pub stop_here : q ≤ y → Some y ≡ stop_of key j cs
      stop_here h = sym (here_is j cs (omega arith) (omega (arith, at_counter)) ∙ ap Some at_counter)

      pub stop_zero : y < q → j ≡ 0 → Some 0 ≡ stop_of key j cs
      stop_zero h e = sym (zero_is j cs e (omega arith) (omega (arith, at_counter)))

      pub stop_down : y < q → (j ≡ 0 → ⊥) → stop_of key (j - 1) cs ≡ stop_of key j cs
      stop_down h e = sym (down_is j cs e (omega arith) (omega (arith, at_counter)))

  -- ---- which counters a number raised

  -- those from the layer that the number belongs to up to layer j
  pub record Tells (j : ℕ) (cs : List ℕ) (d : Draw) : Type 0 where
    pub reaches : layer_of (suc d.number) ≤ j
    pub raised : d.counters ≡ raises cs (layer_of (suc d.number)) (suc j - layer_of (suc d.number))

  -- the output of layer j+1 is 00: its counter is raised besides those that layer j raised
  raised_low : (j a : ℕ) (cs : List ℕ) → counter cs (suc j) ≡ a → zero_top (suc j) (layer (suc j) key a) ≡ true
      → Tells j cs (next_number key j cs) → Tells (suc j) cs (next_number key (suc j) cs)
  raised_low j a cs e y r =
      subst (λ (d : Draw). Tells (suc j) cs d) (sym (next_low key j a cs e y)) (record {
        reaches = omega (arith, r.reaches);
        raised = ap (λ (ds : List ℕ). set ds (suc j) (suc a)) r.raised ∙ raise_last cs (layer_of (suc (next_number key j cs).number)) j a e r.reaches;
      })

  -- it is not: the number belongs to layer j+1, and only its counter is raised
  raised_high : (j a : ℕ) (cs : List ℕ) → counter cs (suc j) ≡ a → zero_top (suc j) (layer (suc j) key a) ≡ false → Tells (suc j) cs (next_number key (suc j) cs)
  raised_high j a cs e m =
      let l : layer_of (suc (layer (suc j) key a)) ≡ suc j = layer_number (suc j) (layer (suc j) key a) (top→le (suc j) (layer (suc j) key a) m) (output_lt (suc j) a) in
      subst (λ (d : Draw). Tells (suc j) cs d) (sym (next_high key j a cs e m)) (record {
        reaches = omega (arith, l);
        raised = rw l (raise_one cs j a e);
      })

  pub next_raised : (j : ℕ) (cs : List ℕ) → Tells j cs (next_number key j cs)
  next_raised zero cs =
      let z : layer_of (suc (next_number key 0 cs).number) ≡ 0 = omega (arith, layer_least (suc (next_number key 0 cs).number) 0 (number_lt 0 cs)) in
      record { reaches = omega arith; raised = rw z refl }
  next_raised (suc j) cs =
      by_test (zero_top (suc j) (layer (suc j) key (counter cs (suc j))))
      (λ y. raised_low j (counter cs (suc j)) cs refl y (next_raised j cs))
      (λ m. raised_high j (counter cs (suc j)) cs refl m)
