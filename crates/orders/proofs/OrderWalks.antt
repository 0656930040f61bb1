-- `next` called again and again from `new` gives P(n), and then none: over all calls, not one.
-- Assumes nothing.
use mathlib.Core.Path.{◌≡◌, refl, sym, ap, ◌∙◌}
use mathlib.Core.Bool.{true, false}
use mathlib.Core.List.{List, [], ◌∷◌}
use mathlib.Core.Option.{none, some}
use Prim.Native.Nat.{ℕ, zero, suc, ◌+◌, ◌-◌, ◌^◌, ◌≤◌, ◌<◌}
use native.Mathlib.Omega.{arith}
use borrow.Author.Tests.{le-ltb, le-leb, eq-eqb, ne_eqb}
use lib.ListN.{length, length-replicate, get_or-replicate}
use Rattle.answers.specs.Answers.{result, after}
use Rattle.answers.specs.Steps.{Step, answers, one_by_one}
use Rattle.lists.specs.Lists.{keep, below}
use Rattle.lists.proofs.Tests.{below_no, by_test, by_below, by_same}
use Rattle.lists.proofs.Keeping.{every_from}
use Rattle.lists.proofs.Members.{keep_none}
use Rattle.answers.proofs.Turns.{Turn, ended, gave, all_answers}
use Rattle.layers.specs.Layer.{size}
use Rattle.orders.specs.declared.consistent_permutation.ConsistentPermutation.{ConsistentPermutation}
use Rattle.orders.specs.Orders.{layer_of, counter, none_counted, next_number, next_numbers, whole, P}
use Rattle.orders.specs.OrderCalls.{order_of, key_of, within, meets, first_of, next_call, tested}
use Rattle.orders.proofs.LogLaws.{size_suc, layer_in}
use Rattle.orders.proofs.WalkLaws.{next_length}
use Rattle.orders.proofs.SyncLaws.{Synced, synced_start, synced_counter, synced_le, next_above, Goes, goes}

-- ---- the counters that a walk from 0 reaches, for an order whose layer is j

pub record Walked (key j : ℕ) (cs : List ℕ) : Type 0 where
  pub fifteen : length cs ≡ 15
  pub synced : Synced key j cs (counter cs j)
  pub above : (i : ℕ) → j < i → i < 15 → counter cs i ≤ size i

-- no counter is above its layer's size
walked_within : (key j : ℕ) (cs : List ℕ) → Walked key j cs → within cs ≡ true
unfolding within
walked_within key j cs w =
    every_from _ 0 15 (λ i l u. le-leb (counter cs i) (size i) (by_below j i
    (λ h. w.above i h (omega arith))
    (λ h. omega (arith, synced_le key j (counter cs j) cs w.synced i h, size_suc i))))

walked_start : (key j : ℕ) → j ≤ 14 → Walked key j none_counted
walked_start key j h =
    let z : (i : ℕ) → i < 15 → counter none_counted i ≡ 0 = (λ i u. get_or-replicate 15 i 0 0 u) in
    record {
      fifteen = length-replicate {A = ℕ} 15 0;
      synced = rw (z j (omega arith)) (synced_start key j h);
      above = λ i l u. omega (arith, z i u);
    }

-- one number more
walked_next : (key j a : ℕ) (cs : List ℕ) → j ≤ 14 → Walked key j cs → counter cs j ≡ a → a < 4 ^ suc j
    → (meets key j cs ≡ false) × Walked key j (next_number key j cs).counters × (counter (next_number key j cs).counters j ≡ suc a)
walked_next key j a cs h w e l =
    let g : Goes key j a cs = goes key j a cs (rw e at w.synced) l (omega (arith, w.fifteen)) in
    let c : counter (next_number key j cs).counters j ≡ suc a = (synced_counter key j (suc a) (next_number key j cs).counters g.synced).0 in (
      g.meets_none,
      record {
        fifteen = next_length key j cs ∙ w.fifteen;
        synced = rw c g.synced;
        above = λ i l' u. omega (arith, next_above key j i cs l', w.above i l' u);
      },
      c,
    )

-- ---- one call

-- what the layer of n is still to give, numbers of n or more dropped
abbrev pub rest_of : ConsistentPermutation → List ℕ
rest_of o =
    let j = layer_of o.n in
    keep (below o.n) (next_numbers (key_of o) j (size j - counter o.counters j) o.counters)

pub record Going (o : ConsistentPermutation) : Type 0 where
  pub n_in : o.n ≤ 2 ^ 30
  pub walked : Walked (key_of o) (layer_of o.n) o.counters

-- it passes the tests that come before the first output
pub going_tested : (o : ConsistentPermutation) → Going o → tested o ≡ result tt
unfolding tested
going_tested o g = rw (walked_within (key_of o) (layer_of o.n) o.counters g.walked, le-ltb (2 ^ 30) o.n g.n_in) refl

-- what a search through the next c numbers comes to
data Comes (o : ConsistentPermutation) (j c : ℕ) (cs : List ℕ) : Type 0 where
  at_end : (ds : List ℕ) → first_of o j c cs ≡ after (result none) (order_of (key_of o) o.n ds) → Walked (key_of o) j ds → counter ds j ≡ 4 ^ suc j
      → keep (below o.n) (next_numbers (key_of o) j c cs) ≡ [] → Comes o j c cs
  with_number : (x : ℕ) (ds : List ℕ) → first_of o j c cs ≡ after (result (some x)) (order_of (key_of o) o.n ds) → Walked (key_of o) j ds
      → keep (below o.n) (next_numbers (key_of o) j c cs) ≡ x ∷ keep (below o.n) (next_numbers (key_of o) j (4 ^ suc j - counter ds j) ds)
      → Comes o j c cs

dropped : (o : ConsistentPermutation) (j c : ℕ) (cs : List ℕ) → meets (key_of o) j cs ≡ false → below o.n (next_number (key_of o) j cs).number ≡ false
    → Comes o j c (next_number (key_of o) j cs).counters → Comes o j (suc c) cs
dropped o j c cs m b (at_end ds e w z r) = at_end ds (rw (m, b) e) w z (rw b r)
dropped o j c cs m b (with_number x ds e w r) = with_number x ds (rw (m, b) e) w (rw b r)

comes : (o : ConsistentPermutation) (j c a : ℕ) (cs : List ℕ) → j ≤ 14 → Walked (key_of o) j cs → counter cs j ≡ a → a + c ≡ 4 ^ suc j → Comes o j c cs
comes o j zero a cs h w e s = at_end cs refl w (omega (arith, e)) refl
comes o j (suc c) a cs h w e s =
    let g = walked_next (key_of o) j a cs h w e (omega arith) in
    let ds : List ℕ = (next_number (key_of o) j cs).counters in
    by_test (below o.n (next_number (key_of o) j cs).number)
    (λ y. let k : 4 ^ suc j - counter ds j ≡ c = omega (arith, g.2) in
    with_number (next_number (key_of o) j cs).number ds (rw (g.0, y)) g.1 (rw (y, k)))
    (λ n. dropped o j c cs g.0 n (comes o j c (suc a) ds h g.1 g.2 (omega arith)))

nothing_below_0 : (xs : List ℕ) → keep (below 0) xs ≡ []
nothing_below_0 xs = keep_none (below 0) xs (λ x h. below_no x 0 (omega arith))

empty_turn : (o : ConsistentPermutation) → Going o → o.n ≡ 0 → Turn next_call rest_of Going o
unfolding next_call
empty_turn o g e =
    let f : next_call o ≡ after (result none) o =
    rw (walked_within (key_of o) (layer_of o.n) o.counters g.walked, le-ltb (2 ^ 30) o.n g.n_in, eq-eqb o.n 0 e) in
    let xs : List ℕ = next_numbers (key_of o) (layer_of o.n) (size (layer_of o.n) - counter o.counters (layer_of o.n)) o.counters in
    let z : rest_of o ≡ [] = ap (λ (i : ℕ). keep (below i) xs) e ∙ nothing_below_0 xs in
    ended (ap (λ (t : Step ConsistentPermutation). t.answer) f) (rw f g) (ap (λ (t : Step ConsistentPermutation). rest_of t.left) f ∙ z) z

module _ (o : ConsistentPermutation) (g : Going o) (d : o.n ≡ 0 → ⊥) where
  abbrev left : ℕ
  left = size (layer_of o.n) - counter o.counters (layer_of o.n)

  searched : next_call o ≡ first_of o (layer_of o.n) left o.counters
  unfolding next_call
  searched =
      rw (walked_within (key_of o) (layer_of o.n) o.counters g.walked, le-ltb (2 ^ 30) o.n g.n_in, ne_eqb o.n 0 d)

  some_turn : Comes o (layer_of o.n) left o.counters → Turn next_call rest_of Going o
  some_turn (at_end ds e w z r) =
      let f : next_call o ≡ after (result none) (order_of (key_of o) o.n ds) = searched ∙ e in
      let q : size (layer_of o.n) - counter ds (layer_of o.n) ≡ 0 = omega (arith, z, size_suc (layer_of o.n)) in
      let t : rest_of (order_of (key_of o) o.n ds) ≡ [] = ap (λ (c : ℕ). keep (below o.n) (next_numbers (key_of o) (layer_of o.n) c ds)) q in
      ended (ap (λ (s : Step ConsistentPermutation). s.answer) f) (rw f (record { n_in = g.n_in; walked = w }))
      (ap (λ (s : Step ConsistentPermutation). rest_of s.left) f ∙ t) r
  some_turn (with_number x ds e w r) =
      let f : next_call o ≡ after (result (some x)) (order_of (key_of o) o.n ds) = searched ∙ e in
      let q : rest_of o ≡ x ∷ rest_of (order_of (key_of o) o.n ds) =
      r ∙ ap (λ (s : ℕ). x ∷ keep (below o.n) (next_numbers (key_of o) (layer_of o.n) (s - counter ds (layer_of o.n)) ds)) (sym (size_suc (layer_of o.n))) in
      gave x (ap (λ (s : Step ConsistentPermutation). s.answer) f) (rw f (record { n_in = g.n_in; walked = w }))
      (q ∙ ap (λ (s : Step ConsistentPermutation). x ∷ rest_of s.left) (sym f))

pub next_turn : (o : ConsistentPermutation) → Going o → Turn next_call rest_of Going o
next_turn o g =
    by_same o.n 0
    (λ e. empty_turn o g e)
    (λ d. let c = synced_counter (key_of o) (layer_of o.n) (counter o.counters (layer_of o.n)) o.counters g.walked.synced in
    some_turn o g d (comes o (layer_of o.n) _ (counter o.counters (layer_of o.n)) o.counters (layer_in o.n g.n_in) g.walked refl (omega (arith, c.1, size_suc (layer_of o.n)))))

-- ---- all calls

pub going_new : (key n : ℕ) → n ≤ 2 ^ 30 → Going (order_of key n none_counted)
going_new key n h = record { n_in = h; walked = walked_start key (layer_of n) (layer_in n h) }

pub rest_new : (key n : ℕ) → n ≤ 2 ^ 30 → rest_of (order_of key n none_counted) ≡ P key n
unfolding P whole
rest_new key n h =
    let b : layer_of n ≤ 14 = layer_in n h in
    let z : counter none_counted (layer_of n) ≡ 0 = get_or-replicate 15 (layer_of n) 0 0 (omega arith) in
    let e : size (layer_of n) - counter none_counted (layer_of n) ≡ size (layer_of n) = omega arith in
    rw e

-- from `new`, k calls give the numbers of P(n), one a call, then none
pub order_walk : (k key n : ℕ) → n ≤ 2 ^ 30 → answers next_call k (order_of key n none_counted) ≡ one_by_one k (P key n)
order_walk k key n h = all_answers next_turn k (order_of key n none_counted) (going_new key n h) ∙ ap (one_by_one k) (rest_new key n h)
