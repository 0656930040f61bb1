-- Lowering the samples, shrinking n and growing k, on S(k, n): what document 01 says of them.
-- Assumes nothing.
use mathlib.Core.Path.{◌≡◌, refl, ◌∙◌}
use mathlib.Core.Bool.{cond}
use mathlib.Core.List.{List, [], ◌∷◌, ◌++◌, append-nil}
use Prim.Native.Nat.{ℕ, zero, suc, ◌≤◌, ◌<◌, max}
use native.Mathlib.Nat.{zero-max, max-eq_left, max-eq_right}
use native.Mathlib.Omega.{arith}
use borrow.Author.Tests.{lt-ltb, le-ltb}
use lib.Dec.{ltb, eqb-suc-zero}
use lib.ListN.{length, get_or-append}
use lib.Seq.{get_or_at, set_at, append_snoc}
use Rattle.lists.specs.Lists.{last}
use Rattle.lists.proofs.Tests.{by_below}
use Rattle.lists.proofs.Ascending.{last_snoc}
use Rattle.choosers.specs.Choosers.{g, largest_g, S, moved, larger, lower_at, lower, shrink, grow}
use Rattle.choosers.proofs.SampleLaws.{g_top, g_lt, g_ge, length_S, S_same}

-- where the new member of S(k+1, n) stands: at the end where g(k, n) is above all of S(k, n), else where S(k, last) has it
unfoldable pub enters_at : ℕ → ℕ → ℕ → ℕ
enters_at s zero n = 0
enters_at s (suc k) n = cond (ltb (largest_g s (suc k) n) (g s (suc k) n)) (suc k) (enters_at s k (largest_g s (suc k) n))

module _ (s : ℕ) where
  -- ---- one turn of lower, on a list whose sample at index i is b

  pub larger_front : (i : ℕ) (p rest : List ℕ) (m : ℕ) → i ≤ length p → larger s (p ++ rest) i m ≡ larger s p i m
  unfolding larger
  larger_front zero p rest m h = refl
  larger_front (suc i) p rest m h = rw (get_or-append p rest 0 i (omega arith))

  pub lower_on : (i : ℕ) (p rest : List ℕ) (b m : ℕ) → length p ≡ i → m ≤ b
      → lower_at s (suc i) (p ++ b ∷ rest) m ≡ lower_at s i (p ++ larger s p i m ∷ rest) (larger s p i m)
  unfolding lower_at
  lower_on i p rest b m e h =
      rw (larger_front i p (b ∷ rest) m (omega arith), get_or_at p b rest 0 i e, le-ltb b m h, set_at p b rest (larger s p i m) i e)

  pub lower_stop : (i : ℕ) (p rest : List ℕ) (b m : ℕ) → length p ≡ i → b < m → lower_at s (suc i) (p ++ b ∷ rest) m ≡ moved (p ++ b ∷ rest) (suc i)
  unfolding lower_at
  lower_stop i p rest b m e h = rw (get_or_at p b rest 0 i e, lt-ltb b m h)

  larger_S : (j n m : ℕ) → larger s (S s (suc j) n) (suc j) m ≡ max (largest_g s (suc j) n) (g s (suc j) m)
  unfolding larger S
  larger_S j n m = rw (get_or_at (S s j (largest_g s (suc j) n)) (largest_g s (suc j) n) [] 0 j (length_S s j (largest_g s (suc j) n)))

  -- ---- S(k+1, n) by its last

  pub S_open : (k n : ℕ) → S s (suc k) n ≡ S s k (largest_g s (suc k) n) ++ (largest_g s (suc k) n ∷ [])
  unfolding S
  S_open k n = refl

  S_front : (k n : ℕ) (rest : List ℕ) → S s (suc k) n ++ rest ≡ S s k (largest_g s (suc k) n) ++ largest_g s (suc k) n ∷ rest
  S_front k n rest = rw (S_open k n) (append_snoc (S s k (largest_g s (suc k) n)) (largest_g s (suc k) n) rest)

  pub last_S : (k n : ℕ) → last (S s (suc k) n) ≡ largest_g s (suc k) n
  last_S k n = rw (S_open k n) (last_snoc (S s k (largest_g s (suc k) n)) (largest_g s (suc k) n))

  -- where g(k, n) is above the last of S(k, n)
  pub S_end : (k n : ℕ) → k < n → largest_g s k n < g s k n → S s (suc k) n ≡ S s k n ++ (g s k n ∷ [])
  unfolding S largest_g
  S_end k n h p =
      rw (
        max-eq_right {n = largest_g s k n} {m = g s k n} (omega arith),
        S_same s k (g s k n) n (omega (arith, g_lt s k n h)) (λ i q. omega (arith, g_top s k n i q)),
      )

  -- and where it is not
  pub S_mid : (k n : ℕ) → g s k n ≤ largest_g s k n → S s (suc k) n ≡ S s k (largest_g s k n) ++ (largest_g s k n ∷ [])
  unfolding S largest_g
  S_mid k n p = rw (max-eq_left {n = largest_g s k n} {m = g s k n} p)

  pub enters_end : (k n : ℕ) → largest_g s (suc k) n < g s (suc k) n → enters_at s (suc k) n ≡ suc k
  unfolding enters_at
  enters_end k n p = rw (lt-ltb (largest_g s (suc k) n) (g s (suc k) n) p)

  pub enters_mid : (k n : ℕ) → g s (suc k) n ≤ largest_g s (suc k) n → enters_at s (suc k) n ≡ enters_at s k (largest_g s (suc k) n)
  unfolding enters_at
  enters_mid k n p = rw (le-ltb (largest_g s (suc k) n) (g s (suc k) n) p)

  pub enters_le : (k n : ℕ) → enters_at s k n ≤ k
  unfolding enters_at
  enters_le zero n = omega arith
  enters_le (suc k) n =
      by_below (largest_g s (suc k) n) (g s (suc k) n)
      (λ p. rw (lt-ltb (largest_g s (suc k) n) (g s (suc k) n) p) (omega arith))
      (λ p. rw (le-ltb (largest_g s (suc k) n) (g s (suc k) n) p) (omega (arith, enters_le k (largest_g s (suc k) n))))

  -- ---- lower, from a sample b that is not below m, over S(k, m): the new list is S(k+1, m)

  lowered_zero : (m b : ℕ) (rest : List ℕ) → m ≤ b → lower_at s 1 (S s 0 m ++ b ∷ rest) m ≡ moved (S s 1 m ++ rest) (enters_at s 0 m)
  unfolding lower_at larger enters_at S largest_g
  lowered_zero m b rest e = rw (le-ltb b m e, zero-max)

  pub lowered : (k m b : ℕ) (rest : List ℕ) → k < m → m ≤ b
      → lower_at s (suc k) (S s k m ++ b ∷ rest) m ≡ moved (S s (suc k) m ++ rest) (enters_at s k m)
  lowered zero m b rest h e = lowered_zero m b rest e
  lowered (suc j) m b rest h e =
      lower_on (suc j) (S s (suc j) m) rest b m (length_S s (suc j) m) e
      ∙ rw (larger_S j m m)
      (by_below (largest_g s (suc j) m) (g s (suc j) m)
      (λ p. rw (
        max-eq_right {n = largest_g s (suc j) m} {m = g s (suc j) m} (omega arith),
        enters_end j m p,
        S_end (suc j) m h p,
        append_snoc (S s (suc j) m) (g s (suc j) m) rest,
        S_front j m (g s (suc j) m ∷ rest),
      )
      (lower_stop j (S s j (largest_g s (suc j) m)) (g s (suc j) m ∷ rest) (largest_g s (suc j) m) (g s (suc j) m) (length_S s j (largest_g s (suc j) m)) p))
      (λ p. rw (
        max-eq_left {n = largest_g s (suc j) m} {m = g s (suc j) m} p,
        enters_mid j m p,
        S_mid (suc j) m p,
        append_snoc (S s (suc j) (largest_g s (suc j) m)) (largest_g s (suc j) m) rest,
        S_front j m (largest_g s (suc j) m ∷ rest),
      )
      (lowered j (largest_g s (suc j) m) (largest_g s (suc j) m) (largest_g s (suc j) m ∷ rest) (omega (arith, g_ge s (suc j) m)) (omega arith))))

  -- ---- shrink and grow from S(k, n)

  -- lowered from the last sample
  lower_last : (j n : ℕ) → j < largest_g s (suc j) n → lower s (S s (suc j) n) (largest_g s (suc j) n) ≡ moved (S s (suc j) (largest_g s (suc j) n)) (enters_at s j (largest_g s (suc j) n))
  unfolding lower
  lower_last j n h =
      let b : ℕ = largest_g s (suc j) n in
      let r : lower_at s (suc j) (S s j b ++ (b ∷ [])) b ≡ moved (S s (suc j) b ++ []) (enters_at s j b) = lowered j b b [] h (omega arith) in
      rw (length_S s (suc j) n, S_open j n) (rw append-nil at r)

  pub shrink_gives : (j n : ℕ) → j < largest_g s (suc j) n → shrink s (S s (suc j) n) ≡ moved (S s (suc j) (largest_g s (suc j) n)) (enters_at s j (largest_g s (suc j) n))
  unfolding shrink
  shrink_gives j n h = rw (last_S j n) (lower_last j n h)

  grow_zero : (n : ℕ) → grow s (S s 0 n) n ≡ moved (S s 1 n) (enters_at s 0 n)
  unfolding grow S largest_g enters_at
  grow_zero n = rw zero-max

  pub grow_gives : (k n : ℕ) → k < n → grow s (S s k n) n ≡ moved (S s (suc k) n) (enters_at s k n)
  unfolding grow
  grow_gives zero n h = grow_zero n
  grow_gives (suc j) n h =
      rw (length_S s (suc j) n, last_S j n, eqb-suc-zero j)
      (by_below (largest_g s (suc j) n) (g s (suc j) n)
      (λ p. rw (lt-ltb (largest_g s (suc j) n) (g s (suc j) n) p, enters_end j n p, S_end (suc j) n h p))
      (λ p. rw (
        le-ltb (largest_g s (suc j) n) (g s (suc j) n) p,
        enters_mid j n p,
        S_mid (suc j) n p,
        lower_last j n (omega (arith, g_ge s (suc j) n)),
      )))
