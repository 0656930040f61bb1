-- One call of `next`: the walk through the top layer stops where the definition does, and what each end of it leaves.
-- Assumes nothing.
use mathlib.Core.Path.{◌≡◌, refl, sym, ap, ◌∙◌}
use mathlib.Core.Bool.{true, false}
use mathlib.Core.List.{List}
use mathlib.Core.Option.{none, some}
use Rattle.std.specs.Prelude.{None, Some}
use Prim.Native.Nat.{ℕ, zero, suc, ◌+◌, ◌-◌, ◌^◌, ◌≤◌, ◌<◌}
use native.Mathlib.Numerals.{add-one}
use native.Mathlib.Omega.{arith}
use borrow.Author.Tests.{lt-ltb, le-ltb, lt-leb, eq-eqb, ne_eqb}
use lib.ListN.{length, set}
use lib.Seq.{get_or-set_same, set-get_or, set-set}
use Rattle.answers.specs.Answers.{Answer, refusal, result, after}
use Rattle.lists.specs.Lists.{below}
use Rattle.lists.proofs.Tests.{below_yes, below_no, by_test, by_below}
use Rattle.layers.specs.Layer.{size, layer}
use Rattle.orders.specs.declared.consistent_permutation.ConsistentPermutation.{ConsistentPermutation}
use Rattle.orders.specs.declared.counters.Walked.{Walked}
use Rattle.orders.specs.Orders.{layer_of, counter, output, counted, zero_top, Draw, draw, next_number}
use Rattle.orders.specs.OrderCalls.{order_of, key_of, within, meets, first_of, next_call, tested}
use Rattle.orders.specs.InnerCounters.{raises, walked, seek, walk_of, stop_of, lower_step, zero_step, top_step}
use Rattle.orders.proofs.LogLaws.{size_limit, layer_in, layer_quarter}
use Rattle.orders.proofs.WalkLaws.{next_set, next_low, next_high}
use Rattle.orders.proofs.CounterLaws.{within_at}
use Rattle.orders.proofs.DescentLaws.{top_yes, top_no, number_lt, meets_set, Tells, next_raised}

-- ---- the walk's loop

module _ (key j n : ℕ) where
  pub seek_hit : (x y N : ℕ) → x < N → y ≡ layer j key x → y < n → seek key j n x (N - x) ≡ walked (x + 1) (Some y)
  seek_hit x y N h e l =
      let s : N - x ≡ suc (N - (x + 1)) = omega arith in
      let b : below n (layer j key x) ≡ true = below_yes (layer j key x) n (omega arith) in
      rw (s, b, add-one x, e) refl

  pub seek_miss : (x y N : ℕ) → x < N → y ≡ layer j key x → n ≤ y → seek key j n x (N - x) ≡ seek key j n (x + 1) (N - (x + 1))
  seek_miss x y N h e l =
      let s : N - x ≡ suc (N - (x + 1)) = omega arith in
      let b : below n (layer j key x) ≡ false = below_no (layer j key x) n (omega arith) in
      rw (s, b, add-one x) refl

  pub seek_none : (x N : ℕ) → N ≤ x → seek key j n x (N - x) ≡ walked x None
  seek_none x N h = let s : N - x ≡ 0 = omega arith in rw s refl

-- ---- one number of layer j, whose counter is set to x

module _ (key : ℕ) (cs : List ℕ) where
  -- the output is not 00: it is the number
  high_draw : (j x : ℕ) → j < length cs → zero_top j (layer j key x) ≡ false → next_number key j (set cs j x) ≡ draw (layer j key x) (set cs j (suc x))
  unfolding output counted
  high_draw zero x l m =
      rw (get_or-set_same cs 0 x 0 l, m, add-one x, set-set cs 0 x (suc x)) refl
  high_draw (suc i) x l m =
      next_high key i x (set cs (suc i) x) (get_or-set_same cs (suc i) x 0 l) m ∙ ap (draw (layer (suc i) key x)) (set-set cs (suc i) x (suc x))

  high_meets : (j x : ℕ) → j < length cs → x < size j → zero_top j (layer j key x) ≡ false → meets key j (set cs j x) ≡ false
  unfolding output
  high_meets zero x l h m = rw (get_or-set_same cs 0 x 0 l) (lt-leb (size 0) x h)
  high_meets (suc i) x l h m = rw (get_or-set_same cs (suc i) x 0 l, lt-leb (size (suc i)) x h, m) refl

  -- it is 00: the number is that of the layer below
  low_draw : (i x : ℕ) → suc i < length cs → zero_top (suc i) (layer (suc i) key x) ≡ true
      → next_number key (suc i) (set cs (suc i) x) ≡ draw (next_number key i cs).number (set (next_number key i cs).counters (suc i) (suc x))
  low_draw i x l y =
      next_low key i x (set cs (suc i) x) (get_or-set_same cs (suc i) x 0 l) y
      ∙ ap (λ (d : Draw). draw d.number (set d.counters (suc i) (suc x))) (next_set key i (suc i) x cs (omega arith))
      ∙ ap (draw (next_number key i cs).number) (set-set (next_number key i cs).counters (suc i) x (suc x))

  low_meets : (i x : ℕ) → suc i < length cs → x < size (suc i) → zero_top (suc i) (layer (suc i) key x) ≡ true → meets key (suc i) (set cs (suc i) x) ≡ meets key i cs
  unfolding output
  low_meets i x l h y = rw (get_or-set_same cs (suc i) x 0 l, lt-leb (size (suc i)) x h, y, meets_set key i (suc i) x cs (omega arith)) refl

-- ---- the first number below n

module _ (o : ConsistentPermutation) where
  -- the output at x is 00, so the number is below n
  zero_first : (j x c : ℕ) → j < length o.counters → x < size j → layer j (key_of o) x < 4 ^ j → 4 ^ j ≤ o.n
      → first_of o j (suc c) (set o.counters j x) ≡ zero_step o j (suc x) (layer j (key_of o) x)
  unfolding output counted lower_step
  zero_first zero x c l h t b =
      let z : layer 0 (key_of o) x ≡ 0 = omega arith in
      rw (
        get_or-set_same o.counters 0 x 0 l,
        lt-leb (size 0) x h,
        top_yes 0 (layer 0 (key_of o) x) t,
        below_yes 0 o.n (omega arith),
        add-one x,
        set-set o.counters 0 x (suc x),
        z,
      ) refl
  zero_first (suc i) x c l h t b =
      let y : zero_top (suc i) (layer (suc i) (key_of o) x) ≡ true = top_yes (suc i) (layer (suc i) (key_of o) x) t in
      rw (
        low_meets (key_of o) o.counters i x l h y,
        low_draw (key_of o) o.counters i x l y,
        below_yes (next_number (key_of o) i o.counters).number o.n (omega (arith, number_lt (key_of o) i o.counters)),
      ) refl

  -- ---- the three ends of the walk

  pub top_none : (j : ℕ) (w : Walked) → w.number ≡ None → top_step o j w ≡ after (result none) (order_of (key_of o) o.n (set o.counters j w.input))
  unfolding top_step
  top_none j w e = rw e refl

  pub top_high : (j y : ℕ) (w : Walked) → w.number ≡ Some y → 4 ^ j ≤ y
      → top_step o j w ≡ after (result (some y)) (order_of (key_of o) o.n (set o.counters j w.input))
  unfolding top_step
  top_high j y w e l = rw (e, below_no y (4 ^ j) l) refl

  pub top_zero : (j y : ℕ) (w : Walked) → w.number ≡ Some y → y < 4 ^ j → top_step o j w ≡ zero_step o j w.input y
  unfolding top_step
  top_zero j y w e l = rw (e, below_yes y (4 ^ j) l) refl

  -- ---- the definition stops where the walk does

  first_seek : (j : ℕ) → j < length o.counters → 4 ^ j ≤ o.n → o.n ≤ 4 ^ 15 → (c x : ℕ) → x + c ≡ size j
      → first_of o j c (set o.counters j x) ≡ top_step o j (seek (key_of o) j o.n x c)
  first_seek j l b u zero x e = sym (top_none j (walked x None) refl)
  first_seek j l b u (suc c) x e =
      let y : ℕ = layer j (key_of o) x in
      by_below y (4 ^ j)
      (λ t. zero_first j x c l (omega arith) t b ∙ sym (rw (below_yes y o.n (omega arith)) (top_zero j y (walked (suc x) (Some y)) refl t)))
      (λ t. let m : zero_top j y ≡ false = top_no j y t in
      by_below y o.n
      (λ q. rw (high_meets (key_of o) o.counters j x l (omega arith) m, high_draw (key_of o) o.counters j x l m, below_yes y o.n q)
      (sym (top_high j y (walked (suc x) (Some y)) refl t)))
      (λ q. rw (high_meets (key_of o) o.counters j x l (omega arith) m, high_draw (key_of o) o.counters j x l m, below_no y o.n q)
      (first_seek j l b u c (suc x) (omega arith))))

  pub first_walk : (j from : ℕ) (w : Walked) → j ≡ layer_of o.n → 0 < o.n → o.n ≤ 2 ^ 30 → within o.counters ≡ true → length o.counters ≡ 15
      → from ≡ counter o.counters j → w ≡ walk_of (key_of o) j o.n from
      → first_of o j (size j - counter o.counters j) o.counters ≡ top_step o j w
  unfolding walk_of
  first_walk j from w jn p u i l f e =
      let jl : j ≤ 14 = omega (arith, layer_in o.n u) in
      let q : 4 ^ j ≤ o.n = rw jn (layer_quarter o.n p) in
      let x : ℕ = counter o.counters j in
      let g : first_of o j (size j - x) (set o.counters j x) ≡ top_step o j (seek (key_of o) j o.n x (size j - x)) =
      first_seek j (omega arith) q u (size j - x) x (omega (arith, within_at o.counters i j (omega arith))) in
      ap (first_of o j (size j - x)) (sym (set-get_or o.counters j 0)) ∙ g ∙ ap (top_step o j) (rw (← f, ← e) refl)

  -- ---- an output 00 above layer 0

  pub zero_lower : (j x y : ℕ) → (j ≡ 0 → ⊥) → zero_step o j x y ≡ lower_step o (j - 1) x
  zero_lower zero x y h = absurd (h refl)
  zero_lower (suc i) x y h = let e : suc i - 1 ≡ i = omega arith in rw e refl

  pub zero_zero : (j x y : ℕ) → j ≡ 0 → zero_step o j x y ≡ after (result (some y)) (order_of (key_of o) o.n (set o.counters j x))
  zero_zero zero x y h = refl
  zero_zero (suc i) x y h = absurd (omega arith)

  -- the descent met a counter at its size
  pub lower_met : (i x : ℕ) → None ≡ stop_of (key_of o) i o.counters → lower_step o i x ≡ after (refusal 12) o
  unfolding lower_step stop_of
  lower_met i x e =
      by_test (meets (key_of o) i o.counters)
      (λ m. rw m refl)
      (λ m. let f : None ≡ Some (next_number (key_of o) i o.counters).number = rw m at e in absurd (cc))

  -- it met none
  record Stopped (i y : ℕ) : Type 0 where
    free : meets (key_of o) i o.counters ≡ false
    gives : (next_number (key_of o) i o.counters).number ≡ y
    low : layer_of (y + 1) ≤ i
    raises_to : (next_number (key_of o) i o.counters).counters ≡ raises o.counters (layer_of (y + 1)) (suc i - layer_of (y + 1))

  stopped : (i y : ℕ) → Some y ≡ stop_of (key_of o) i o.counters → Stopped i y
  unfolding stop_of
  stopped i y e =
      by_test (meets (key_of o) i o.counters)
      (λ m. let z : Some y ≡ None = rw m at e in absurd (cc))
      (λ m. let z : Some y ≡ Some (next_number (key_of o) i o.counters).number = rw m at e in
      let f : y ≡ (next_number (key_of o) i o.counters).number = cc in
      let r : Tells (key_of o) i o.counters (next_number (key_of o) i o.counters) = next_raised (key_of o) i o.counters in
      let g : layer_of (suc (next_number (key_of o) i o.counters).number) ≡ layer_of (y + 1) = ap layer_of (omega arith) in
      record {
        free = m;
        gives = sym f;
        low = omega (arith, r.reaches);
        raises_to = r.raised ∙ rw g refl;
      })

  pub lower_room : (i y : ℕ) → i < 15 → Some y ≡ stop_of (key_of o) i o.counters → y + 1 ≤ 4 ^ 15
  lower_room i y h e =
      omega (arith, (stopped i y e).gives, number_lt (key_of o) i o.counters, size_limit i (omega arith))

  pub lower_low : (i y l : ℕ) → Some y ≡ stop_of (key_of o) i o.counters → l ≡ layer_of (y + 1) → l ≤ i
  lower_low i y l e f = omega (arith, (stopped i y e).low)

  pub lower_gave : (top x y l : ℕ) → 0 < top → Some y ≡ stop_of (key_of o) (top - 1) o.counters → l ≡ layer_of (y + 1)
      → lower_step o (top - 1) x ≡ after (result (some y)) (order_of (key_of o) o.n (set (raises o.counters l (top - l)) top x))
  unfolding lower_step
  lower_gave top x y l p e f =
      let s : Stopped (top - 1) y = stopped (top - 1) y e in
      let g : suc (top - 1) ≡ top = omega arith in
      rw (s.free, s.gives, s.raises_to, g, f) refl

  -- ---- the call, outcome by outcome

  -- the tests that come before the first output
  pub record Passed : Type 0 where
    pub fit : within o.counters ≡ true
    pub limit : o.n ≤ 2 ^ 30

  pub tested_yes : result tt ≡ tested o → Passed
  unfolding tested
  tested_yes e =
      by_test (within o.counters)
      (λ f. by_below (2 ^ 30) o.n
      (λ u. absurd (let z : result tt ≡ refusal 1 = rw (f, lt-ltb (2 ^ 30) o.n u) at e in cc))
      (λ h. record { fit = f; limit = h }))
      (λ f. absurd (let z : result tt ≡ refusal 12 = rw f at e in cc))

  pub tested_no : (c : ℕ) → refusal c ≡ tested o → next_call o ≡ after (refusal c) o
  unfolding tested next_call
  tested_no c e =
      by_test (within o.counters)
      (λ f. by_below (2 ^ 30) o.n
      (λ u. let z : ◌≡◌ {A = Answer (Unit {0})} (refusal c) (refusal 1) = rw (f, lt-ltb (2 ^ 30) o.n u) at e in
      let w : c ≡ 1 = cc in rw (f, lt-ltb (2 ^ 30) o.n u, w) refl)
      (λ h. absurd (let z : ◌≡◌ {A = Answer (Unit {0})} (refusal c) (result tt) = rw (f, le-ltb (2 ^ 30) o.n h) at e in cc)))
      (λ f. let z : ◌≡◌ {A = Answer (Unit {0})} (refusal c) (refusal 12) = rw f at e in
      let w : c ≡ 12 = cc in rw (f, w) refl)

  pub next_empty : within o.counters ≡ true → o.n ≡ 0 → next_call o ≡ after (result none) o
  unfolding next_call
  next_empty e z = rw (e, le-ltb (2 ^ 30) o.n (omega arith), eq-eqb o.n 0 z) refl

  pub next_first : (j : ℕ) → within o.counters ≡ true → o.n ≤ 2 ^ 30 → (o.n ≡ 0 → ⊥) → j ≡ layer_of o.n
      → next_call o ≡ first_of o j (size j - counter o.counters j) o.counters
  unfolding next_call
  next_first j e h z f = rw (e, le-ltb (2 ^ 30) o.n h, ne_eqb o.n 0 z, f) refl
