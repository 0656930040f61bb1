-- S(k+1, n) is S(k, n) with one number put in; Q(n) lists what was put in.
-- Assumes nothing.
use mathlib.Core.Path.{◌≡◌, refl, ap, ◌∙◌}
use mathlib.Core.Bool.{Bool, cond}
use mathlib.Core.List.{[], ◌∷◌, map}
use Prim.Native.Nat.{ℕ, zero, suc, ◌≤◌, ◌<◌}
use native.Mathlib.Nat.{zero-max}
use native.Mathlib.Omega.{arith}
use borrow.Author.Tests.{lt-ltb, le-ltb}
use lib.Dec.{ltb}
use lib.ListN.{get_or}
use Rattle.lists.specs.Lists.{zero_to, occurrences, lacked, more, same}
use Rattle.lists.proofs.Tests.{by_test, by_below, by_same, same_yes, same_no}
use Rattle.lists.proofs.Members.{occurrences_append}
use Rattle.lists.proofs.Inserting.{insert_at, insert_at_snoc, insert_at_end, insert_at_at, occurrences_insert_at, lacked_insert_at}
use Rattle.lists.proofs.Listing.{listing_agree}
use Rattle.choosers.specs.Choosers.{g, largest_g, S, Q}
use Rattle.choosers.proofs.SampleLaws.{g_lt, g_ge, g_same, top_lt, top_ge, top_same, length_S}
use Rattle.choosers.proofs.LoweringLaws.{enters_at, enters_end, enters_mid, enters_le, S_end, S_mid, S_open}

-- the member of S(k+1, n) that S(k, n) lacks
unfoldable pub new : ℕ → ℕ → ℕ → ℕ
new s zero n = g s 0 n
new s (suc k) n = cond (ltb (largest_g s (suc k) n) (g s (suc k) n)) (g s (suc k) n) (new s k (largest_g s (suc k) n))

module _ (s : ℕ) where
  pub new_end : (k n : ℕ) → largest_g s (suc k) n < g s (suc k) n → new s (suc k) n ≡ g s (suc k) n
  unfolding new
  new_end k n p = rw (lt-ltb (largest_g s (suc k) n) (g s (suc k) n) p)

  pub new_mid : (k n : ℕ) → g s (suc k) n ≤ largest_g s (suc k) n → new s (suc k) n ≡ new s k (largest_g s (suc k) n)
  unfolding new
  new_mid k n p = rw (le-ltb (largest_g s (suc k) n) (g s (suc k) n) p)

  S_one : (n : ℕ) → S s 1 n ≡ insert_at (S s 0 n) (enters_at s 0 n) (new s 0 n)
  unfolding S largest_g insert_at enters_at new
  S_one n = rw zero-max

  pub S_insert : (k n : ℕ) → k < n → S s (suc k) n ≡ insert_at (S s k n) (enters_at s k n) (new s k n)
  S_insert zero n h = S_one n
  S_insert (suc j) n h =
      by_below (largest_g s (suc j) n) (g s (suc j) n)
      (λ p. rw (enters_end s j n p, new_end j n p, S_end s (suc j) n h p, insert_at_end (S s (suc j) n) (suc j) (g s (suc j) n) (length_S s (suc j) n)))
      (λ p. let c : ℕ = largest_g s (suc j) n in
      rw (
        enters_mid s j n p,
        new_mid j n p,
        S_mid s (suc j) n p,
        S_open s j n,
        S_insert j c (omega (arith, g_ge s (suc j) n)),
        insert_at_snoc (S s j c) c (enters_at s j c) (new s j c) (omega (arith, length_S s j c, enters_le s j c)),
      ))

  -- the number put in is below n
  new_zero : (n : ℕ) → 0 < n → new s 0 n < n
  unfolding new
  new_zero n h = g_lt s 0 n h

  pub new_lt : (k n : ℕ) → k < n → new s k n < n
  new_lt zero n h = new_zero n h
  new_lt (suc k) n h =
      by_below (largest_g s (suc k) n) (g s (suc k) n)
      (λ p. rw (new_end k n p) (g_lt s (suc k) n h))
      (λ p. rw (new_mid k n p) (omega (arith, new_lt k (largest_g s (suc k) n) (omega (arith, g_ge s (suc k) n)), top_lt s (suc k) n (omega arith) (omega arith))))

  -- ---- how often a number stands in S(k, n)

  pub S_none : (k n v : ℕ) → k ≤ n → n ≤ v → occurrences v (S s k n) ≡ 0
  unfolding S
  S_none zero n v h e = refl
  S_none (suc k) n v h e =
      let b : ℕ = largest_g s (suc k) n in
      let l : b < n = top_lt s (suc k) n h (omega arith) in
      occurrences_append v (S s k b) (b ∷ []) ∙ rw (same_no b v (λ q. omega (arith, q))) (omega (arith, S_none k b v (top_ge s k n) (omega arith)))

  pub S_once : (k n v : ℕ) → k ≤ n → occurrences v (S s k n) ≤ 1
  unfolding S
  S_once zero n v h = omega arith
  S_once (suc k) n v h =
      let b : ℕ = largest_g s (suc k) n in
      by_same b v
      (λ q. rw (occurrences_append v (S s k b) (b ∷ []), same_yes b v q) (omega (arith, S_none k b v (top_ge s k n) (omega arith))))
      (λ q. rw (occurrences_append v (S s k b) (b ∷ []), same_no b v q) (omega (arith, S_once k b v (top_ge s k n))))

  -- every member of S(k, n) is one of S(k+1, n)
  pub S_within : (k n v : ℕ) → k < n → occurrences v (S s k n) ≤ occurrences v (S s (suc k) n)
  S_within k n v h =
      rw (S_insert k n h, occurrences_insert_at v (S s k n) (enters_at s k n) (new s k n))
      (by_test (same v (new s k n)) (λ y. rw y (omega arith)) (λ m. rw m (omega arith)))

  -- the number put in did not stand there
  pub new_fresh : (k n : ℕ) → k < n → occurrences (new s k n) (S s k n) ≡ 0
  new_fresh k n h =
      let x : ℕ = new s k n in
      omega (
        arith,
        S_once (suc k) n x h,
        ap (occurrences x) (S_insert k n h),
        occurrences_insert_at x (S s k n) (enters_at s k n) x,
        ap (λ (b : Bool). more b (occurrences x (S s k n))) (same_yes x x refl),
      )

  -- so it is the member that S(k, n) lacks, and what Q lists
  pub new_lacked : (k n : ℕ) → k < n → lacked (S s (suc k) n) (S s k n) ≡ new s k n
  new_lacked k n h = rw (S_insert k n h) (lacked_insert_at (S s k n) (S s k n) (enters_at s k n) (new s k n) (λ v q. q) (new_fresh k n h))

  pub Q_new : (n : ℕ) → Q s n ≡ map (λ t. new s t n) (zero_to n)
  unfolding Q
  Q_new n = listing_agree (λ t. lacked (S s (suc t) n) (S s t n)) (λ t. new s t n) n (λ t h. new_lacked t n h)

  -- it stands at its place
  pub enters_new : (k n : ℕ) → k < n → get_or (S s (suc k) n) (enters_at s k n) 0 ≡ new s k n
  enters_new k n h = rw (S_insert k n h) (insert_at_at (S s k n) (enters_at s k n) (new s k n) (omega (arith, length_S s k n, enters_le s k n)))

  -- where every g(i, n) for i up to k is below m, it is the same for m
  pub new_same : (k m n : ℕ) → k < m → m ≤ n → ((i : ℕ) → i ≤ k → g s i n < m) → new s k m ≡ new s k n
  unfolding new
  new_same zero m n h e p = g_same s 0 m n h e (p 0 (omega arith))
  new_same (suc k) m n h e p =
      rw (top_same s (suc k) m n (omega arith) e (λ i q. p i (omega arith)), g_same s (suc k) m n h e (p (suc k) (omega arith)))
