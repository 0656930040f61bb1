-- A permutation of 0..N: its outputs are an order of 0..N, so just m inputs have an output below m.
-- Assumes nothing.
use mathlib.Core.Path.{◌≡◌, refl, sym, ap, ◌∙◌}
use mathlib.Core.Logic.{◌≢◌}
use mathlib.Core.List.{map}
use Prim.Native.Nat.{ℕ, zero, suc, ◌+◌, ◌≤◌, ◌<◌}
use native.Mathlib.Omega.{arith}
use lib.ListN.{length}
use Rattle.lists.specs.Lists.{keep, below, occurrences, from, zero_to}
use Rattle.lists.specs.Permutations.{Permutation}
use Rattle.lists.proofs.Tests.{below_yes, same_yes, same_no, by_same}
use Rattle.lists.proofs.Keeping.{All, keep_map}
use Rattle.lists.proofs.Counting.{Order, order_of_lem}

pub injective : {N : ℕ} {f g : ℕ → ℕ} → Permutation N f g → (x y : ℕ) → x < N → y < N → f x ≡ f y → x ≡ y
injective {g = g} p x y hx hy e = sym (p.undo x hx) ∙ ap g e ∙ p.undo y hy

pub from_length : (f : ℕ → ℕ) (a c : ℕ) → length (map f (from a c)) ≡ c
from_length f a zero = refl
from_length f a (suc c) = ap suc (from_length f (suc a) c)

from_none : (f : ℕ → ℕ) (v a c : ℕ) → ((x : ℕ) → a ≤ x → x < a + c → f x ≢ v) → occurrences v (map f (from a c)) ≡ 0
from_none f v a zero h = refl
from_none f v a (suc c) h =
    rw (same_no (f a) v (h a (omega arith) (omega arith))) (from_none f v (suc a) c (λ x l u. h x (omega arith) (omega arith)))

module _ {N : ℕ} {f g : ℕ → ℕ} (p : Permutation N f g) where
  from_all : (a c : ℕ) → a + c ≤ N → All (below N) (map f (from a c))
  from_all a zero h = tt
  from_all a (suc c) h = (below_yes (f a) N (p.stays a (omega arith)), from_all (suc a) c (omega arith))

  from_occurrences : (v a c : ℕ) → a + c ≤ N → occurrences v (map f (from a c)) ≤ 1
  from_occurrences v a zero h = omega arith
  from_occurrences v a (suc c) h =
      by_same (f a) v
      (λ e. rw (same_yes (f a) v e) (omega (arith, from_none f v (suc a) c (λ x l u e'. absurd (let i : a ≡ x = injective p a x (omega arith) (omega arith) (e ∙ sym e') in omega arith)))))
      (λ d. rw (same_no (f a) v d) (from_occurrences v (suc a) c (omega arith)))

  -- its outputs are an order of 0..N
  pub image_order : Order N (map f (zero_to N))
  image_order = order_of_lem N (map f (zero_to N)) (from_length f 0 N) (from_all 0 N (omega arith)) (λ v. from_occurrences v 0 N (omega arith))

  -- just m inputs have an output below m
  pub inputs_below : (m : ℕ) → m ≤ N → length (keep (λ x. below m (f x)) (zero_to N)) ≡ m
  inputs_below m h = keep_map (below m) f (zero_to N) ∙ image_order.counts m h
