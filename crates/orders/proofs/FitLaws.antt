-- A call of `next` keeps an order's key and n, and its counters within their sizes.
-- Assumes nothing.
use mathlib.Core.Path.{◌≡◌, refl, ◌∙◌}
use mathlib.Core.Bool.{true, false}
use mathlib.Core.List.{List}
use Prim.Native.Nat.{ℕ, zero, suc, ◌+◌, ◌^◌, ◌≤◌, ◌<◌}
use native.Mathlib.Omega.{arith}
use borrow.Author.Tests.{le-leb, leb-false, le-ltb, eq-eqb, ne_eqb}
use lib.ListN.{length, length-set}
use lib.Seq.{get_or-set_same, get_or-set_other}
use Rattle.std.proofs.lemmas.Bool.{or_parts}
use Rattle.lists.specs.Lists.{below}
use Rattle.lists.proofs.Tests.{by_test, by_same}
use Rattle.lists.proofs.Keeping.{every_from}
use Rattle.layers.specs.Layer.{size}
use Rattle.orders.specs.declared.consistent_permutation.ConsistentPermutation.{ConsistentPermutation}
use Rattle.orders.specs.Orders.{layer_of, counter, output, counted, zero_top, next_number}
use Rattle.orders.specs.OrderCalls.{key_of, within, meets, first_of, next_call}
use Rattle.orders.proofs.CounterLaws.{within_at}
use Rattle.orders.proofs.WalkLaws.{next_length}
use Rattle.orders.proofs.DescentLaws.{meets_set}
use Rattle.orders.proofs.LogLaws.{layer_in}

-- a counter below its size may be one higher
counted_within : (j : ℕ) (cs : List ℕ) → length cs ≡ 15 → j < 15 → within cs ≡ true → counter cs j < size j → within (counted j cs) ≡ true
unfolding within counted
counted_within j cs l h e u =
    let now : counter (counted j cs) j ≡ counter cs j + 1 = get_or-set_same cs j (counter cs j + 1) 0 (omega (arith, l)) in
    every_from _ 0 15 (λ i a b. le-leb (counter (counted j cs) i) (size i) (by_same i j
    (λ s. rw s (omega (arith, now, u)))
    (λ d. let same : counter (counted j cs) i ≡ counter cs i = get_or-set_other cs j i (counter cs j + 1) 0 d in
    omega (arith, same, within_at cs e i b))))

module _ (key : ℕ) where
  -- a number whose descent meets no counter at its size
  next_within : (j : ℕ) (cs : List ℕ) → length cs ≡ 15 → j < 15 → within cs ≡ true → meets key j cs ≡ false → within (next_number key j cs).counters ≡ true
  unfolding counted
  next_within zero cs l h e m = counted_within 0 cs l h e (leb-false (size 0) (counter cs 0) m)
  next_within (suc j) cs l h e m =
      let n = or_parts _ _ m in
      let up : within (counted (suc j) cs) ≡ true = counted_within (suc j) cs l h e (leb-false (size (suc j)) (counter cs (suc j)) n.0) in
      by_test (zero_top (suc j) (output key (suc j) cs))
      (λ y. rw y (next_within j (counted (suc j) cs) (length-set cs (suc j) (counter cs (suc j) + 1) ∙ l) (omega arith) up (meets_set key j (suc j) (counter cs (suc j) + 1) cs (omega arith) ∙ (rw y at n.1))))
      (λ z. rw z up)

-- what a call leaves, beside its counter's numbers
pub record Keeps (o p : ConsistentPermutation) : Type 0 where
  pub key : p.master_key ≡ o.master_key
  pub n : p.n ≡ o.n
  pub fit : within p.counters ≡ true

-- the search for the first number below n, from counters that it reached
first_keeps : (o : ConsistentPermutation) (j c : ℕ) (cs : List ℕ) → j < 15 → within o.counters ≡ true → within cs ≡ true → length cs ≡ 15 → Keeps o (first_of o j c cs).left
first_keeps o j zero cs h f e l = record { key = refl; n = refl; fit = e }
first_keeps o j (suc c) cs h f e l =
    let d = next_number (key_of o) j cs in
    by_test (meets (key_of o) j cs)
    (λ m. rw m (record { key = refl; n = refl; fit = f }))
    (λ m. let w : within d.counters ≡ true = next_within (key_of o) j cs l h e m in
    by_test (below o.n d.number)
    (λ y. rw (m, y) (record { key = refl; n = refl; fit = w }))
    (λ z. rw (m, z) (first_keeps o j c d.counters h f w (next_length (key_of o) j cs ∙ l))))

pub next_keeps : (o : ConsistentPermutation) → length o.counters ≡ 15 → o.n ≤ 2 ^ 30 → within o.counters ≡ true → Keeps o (next_call o).left
unfolding next_call
next_keeps o l u f =
    by_same o.n 0
    (λ z. rw (f, le-ltb (2 ^ 30) o.n u, eq-eqb o.n 0 z) (record { key = refl; n = refl; fit = f }))
    (λ d. rw (f, le-ltb (2 ^ 30) o.n u, ne_eqb o.n 0 d) (first_keeps o (layer_of o.n) _ o.counters (omega (arith, layer_in o.n u)) f f l))
