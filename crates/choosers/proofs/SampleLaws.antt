-- S(k, n) has k members, strictly ascending and below n, and it stays where n is lowered to no less than what its samples need.
-- Assumes nothing.
use mathlib.Core.Path.{◌≡◌, refl, sym, ap, ◌∙◌}
use Prim.Native.Nat.{ℕ, zero, suc, ◌+◌, ◌-◌, ◌≤◌, ◌<◌}
use native.Mathlib.Omega.{arith}
use lib.ListN.{length}
use Rattle.lists.specs.Lists.{zero_to, Ascending}
use Rattle.lists.proofs.Tests.{by_below}
use Rattle.lists.proofs.Ranges.{zero_to_suc}
use Rattle.lists.proofs.Ascending.{length_snoc, ascending_nil, ascending_snoc}
use Rattle.hashes.specs.Hashes.{feed}
use Rattle.hashes.proofs.LargestLaws.{prev_below, prev_same}
use Rattle.choosers.specs.Choosers.{g, largest_g, S}

module _ (s : ℕ) where
  -- ---- g(i, n)

  pub g_lt : (i n : ℕ) → i < n → g s i n < n
  unfolding g
  g_lt i n h = omega (arith, prev_below (feed s i) (n - i) (omega arith))

  pub g_ge : (i n : ℕ) → i ≤ g s i n
  unfolding g
  g_ge i n = omega arith

  -- a hash found below n that is below m too is the one found below m
  pub g_same : (i m n : ℕ) → i < m → m ≤ n → g s i n < m → g s i m ≡ g s i n
  unfolding g
  g_same i m n h e p = ap (λ x. i + x) (prev_same (feed s i) (m - i) (n - i) (omega arith) (omega arith) (omega arith))

  -- ---- the largest of them

  pub g_top : (k n i : ℕ) → i < k → g s i n ≤ largest_g s k n
  unfolding largest_g
  g_top zero n i h = absurd (omega arith)
  g_top (suc k) n i h =
      by_below i k (λ p. omega (arith, g_top k n i p)) (λ p. let e : i ≡ k = omega arith in rw e (omega arith))

  pub top_lt : (k n : ℕ) → k ≤ n → 0 < n → largest_g s k n < n
  unfolding largest_g
  top_lt zero n h e = e
  top_lt (suc k) n h e = omega (arith, top_lt k n (omega arith) e, g_lt k n h)

  pub top_ge : (k n : ℕ) → k ≤ largest_g s (suc k) n
  unfolding largest_g
  top_ge k n = omega (arith, g_ge k n)

  -- it is below b where all of them are
  pub top_below : (k n b : ℕ) → 0 < b → ((i : ℕ) → i < k → g s i n < b) → largest_g s k n < b
  unfolding largest_g
  top_below zero n b h p = h
  top_below (suc k) n b h p = omega (arith, top_below k n b h (λ i q. p i (omega arith)), p k (omega arith))

  pub top_same : (k m n : ℕ) → k ≤ m → m ≤ n → ((i : ℕ) → i < k → g s i n < m) → largest_g s k m ≡ largest_g s k n
  unfolding largest_g
  top_same zero m n h e p = refl
  top_same (suc k) m n h e p = rw (top_same k m n (omega arith) e (λ i q. p i (omega arith)), g_same k m n h e (p k (omega arith)))

  -- ---- S(k, n)

  pub length_S : (k n : ℕ) → length (S s k n) ≡ k
  unfolding S
  length_S zero n = refl
  length_S (suc k) n = length_snoc (S s k (largest_g s (suc k) n)) (largest_g s (suc k) n) ∙ ap suc (length_S k (largest_g s (suc k) n))

  pub S_ascending : (k n : ℕ) → k ≤ n → Ascending (S s k n) n
  unfolding S
  S_ascending zero n h = ascending_nil n
  S_ascending (suc k) n h =
      ascending_snoc (S s k (largest_g s (suc k) n)) (largest_g s (suc k) n) n (S_ascending k (largest_g s (suc k) n) (top_ge k n)) (top_lt (suc k) n h (omega arith))

  -- where every g(i, n) for i below k is below m, S(k, m) is S(k, n)
  pub S_same : (k m n : ℕ) → m ≤ n → ((i : ℕ) → i < k → g s i n < m) → S s k m ≡ S s k n
  unfolding S
  S_same zero m n e p = refl
  S_same (suc k) m n e p = rw (top_same (suc k) m n (omega (arith, p k (omega arith), g_ge k n)) e p)

  -- with k = n they are 0..n
  pub S_full : (n : ℕ) → S s n n ≡ zero_to n
  unfolding S
  S_full zero = refl
  S_full (suc k) =
      let e : largest_g s (suc k) (suc k) ≡ k = omega (arith, top_lt (suc k) (suc k) (omega arith) (omega arith), top_ge k (suc k)) in
      rw (e, S_full k) (sym (zero_to_suc k))
