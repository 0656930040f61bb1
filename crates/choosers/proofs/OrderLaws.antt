-- Q(n+1) is Q(n) with n put in at one place; so Q(n) has each number below n once, and its numbers below m are Q(m).
-- Assumes nothing.
use mathlib.Core.Path.{◌≡◌, refl, sym, ap, ◌∙◌}
use mathlib.Core.Logic.{◌⊎◌, inl, inr, ⊎_elim}
use mathlib.Core.List.{List, [], ◌∷◌, ◌++◌, map}
use Prim.Native.Nat.{ℕ, zero, suc, ◌≤◌, ◌<◌}
use native.Mathlib.Nat.{zero-max}
use native.Mathlib.Omega.{arith}
use native.Mathlib.Decide.{le_ind}
use lib.ListN.{length, get_or}
use Rattle.lists.specs.Lists.{zero_to, keep, below, occurrences}
use Rattle.lists.proofs.Tests.{by_below}
use Rattle.lists.proofs.Keeping.{all_keep}
use Rattle.lists.proofs.Counting.{Order, order_once, order_none, order_all}
use Rattle.lists.proofs.Permutations.{from_length}
use Rattle.lists.proofs.Inserting.{insert_at, insert_at_snoc, insert_at_end, keep_insert_at, order_insert}
use Rattle.lists.proofs.Listing.{listing_snoc, listing_at}
use Rattle.choosers.specs.Choosers.{g, largest_g, Q}
use Rattle.choosers.proofs.SampleLaws.{g_lt, g_ge, g_same, top_below}
use Rattle.choosers.proofs.EntryLaws.{new, new_end, new_mid, new_lt, new_same, Q_new}

-- the first k numbers of Q(n)
unfoldable firsts : ℕ → ℕ → ℕ → List ℕ
firsts s k n = map (λ t. new s t n) (zero_to k)

-- of the first k+1 numbers of Q(n+1): either none is n, and they are those of Q(n), or one is n, and the others are the first k
-- of Q(n)
record Early (s k n : ℕ) : Type 0 where
  low : (i : ℕ) → i < suc k → g s i (suc n) < n
  alike : firsts s (suc k) (suc n) ≡ firsts s (suc k) n

record Late (s k n : ℕ) : Type 0 where
  full : largest_g s (suc k) (suc n) ≡ n
  spot : ℕ
  within : spot ≤ k
  put : firsts s (suc k) (suc n) ≡ insert_at (firsts s k n) spot n

module _ (s : ℕ) where
  firsts_more : (k n : ℕ) → firsts s (suc k) n ≡ firsts s k n ++ (new s k n ∷ [])
  unfolding firsts
  firsts_more k n = listing_snoc (λ t. new s t n) k

  firsts_length : (k n : ℕ) → length (firsts s k n) ≡ k
  unfolding firsts
  firsts_length k n = from_length (λ t. new s t n) 0 k

  Q_firsts : (n : ℕ) → Q s n ≡ firsts s n n
  unfolding firsts
  Q_firsts n = Q_new s n

  stage_zero : (n : ℕ) → Early s 0 n ⊎ Late s 0 n
  unfolding firsts new insert_at largest_g
  stage_zero n =
      by_below (g s 0 (suc n)) n
      (λ p. inl (record {
        low = λ i q. let e : i ≡ 0 = omega arith in rw e p;
        alike = ap (λ x. x ∷ []) (sym (g_same s 0 n (suc n) (omega arith) (omega arith) p));
      }))
      (λ p. let e : g s 0 (suc n) ≡ n = omega (arith, g_lt s 0 (suc n) (omega arith)) in
      inr (record { full = rw (zero-max, e); spot = 0; within = omega arith; put = rw e }))

  stage_early : (k n : ℕ) → suc k ≤ n → Early s k n → Early s (suc k) n ⊎ Late s (suc k) n
  unfolding largest_g
  stage_early k n h a =
      by_below (g s (suc k) (suc n)) n
      (λ p. let low : (i : ℕ) → i < suc (suc k) → g s i (suc n) < n = (λ i q. by_below i (suc k) (λ r. a.low i r) (λ r. let e : i ≡ suc k = omega arith in rw e p)) in
      inl (record {
        low = low;
        alike =
            rw (firsts_more (suc k) (suc n), firsts_more (suc k) n, a.alike)
            (ap (λ x. firsts s (suc k) n ++ (x ∷ [])) (sym (new_same s (suc k) n (suc n) (omega (arith, g_ge s (suc k) (suc n))) (omega arith) (λ i q. low i (omega arith)))));
      }))
      (λ p. let e : g s (suc k) (suc n) ≡ n = omega (arith, g_lt s (suc k) (suc n) (omega arith)) in
      let t : largest_g s (suc k) (suc n) < n = top_below s (suc k) (suc n) n (omega arith) a.low in
      inr (record {
        full = omega arith;
        spot = suc k;
        within = omega arith;
        put =
            rw (firsts_more (suc k) (suc n), new_end s k (suc n) (omega arith), e, a.alike)
            (sym (insert_at_end (firsts s (suc k) n) (suc k) n (firsts_length (suc k) n)));
      }))

  stage_late : (k n : ℕ) → suc k ≤ n → Late s k n → Early s (suc k) n ⊎ Late s (suc k) n
  unfolding largest_g
  stage_late k n h a =
      let b : g s (suc k) (suc n) < suc n = g_lt s (suc k) (suc n) (omega arith) in
      inr (record {
        full = omega (arith, a.full);
        spot = a.spot;
        within = omega (arith, a.within);
        put =
            rw (firsts_more (suc k) (suc n), firsts_more k n, a.put, new_mid s k (suc n) (omega (arith, a.full)), a.full)
            (sym (insert_at_snoc (firsts s k n) (new s k n) a.spot n (omega (arith, a.within, firsts_length k n))));
      })

  stage : (k n : ℕ) → k ≤ n → Early s k n ⊎ Late s k n
  stage zero n h = stage_zero n
  stage (suc k) n h =
      ⊎_elim (λ (a : Early s k n). stage_early k n h a) (λ (a : Late s k n). stage_late k n h a) (stage k n (omega arith))

  -- Q(n+1) is Q(n) with n put in
  pub Q_step : (n : ℕ) → (p : ℕ) × (p ≤ n) × (Q s (suc n) ≡ insert_at (Q s n) p n)
  Q_step n =
      ⊎_elim
      (λ (a : Early s n n). absurd (omega (arith, a.low n (omega arith), g_ge s n (suc n))))
      (λ (a : Late s n n). (a.spot, a.within, rw (Q_firsts (suc n), Q_firsts n) a.put))
      (stage n n (omega arith))

  pub length_Q : (n : ℕ) → length (Q s n) ≡ n
  length_Q n = rw (Q_firsts n) (firsts_length n n)

  pub Q_at : (n t : ℕ) → t < n → get_or (Q s n) t 0 ≡ new s t n
  Q_at n t h = rw (Q_new s n) (listing_at (λ t. new s t n) n t h)

  pub Q_below : (n t : ℕ) → t < n → get_or (Q s n) t 0 < n
  Q_below n t h = rw (Q_at n t h) (new_lt s t n h)

  -- ---- Q(n) has each number below n once, and no other

  order_step : (n : ℕ) → Order n (Q s n) → (p : ℕ) × (p ≤ n) × (Q s (suc n) ≡ insert_at (Q s n) p n) → Order (suc n) (Q s (suc n))
  order_step n o e = rw e.2 (order_insert n (Q s n) e.0 o (omega (arith, e.1, length_Q n)))

  order_none_yet : Order 0 (Q s 0)
  unfolding Q
  order_none_yet = record { size = refl; counts = λ n h. let e : n ≡ 0 = omega arith in rw e }

  pub Q_order : (n : ℕ) → Order n (Q s n)
  Q_order zero = order_none_yet
  Q_order (suc n) = order_step n (Q_order n) (Q_step n)

  pub Q_once : (n v : ℕ) → v < n → occurrences v (Q s n) ≡ 1
  Q_once n v h = order_once (Q_order n) v h

  pub Q_none : (n v : ℕ) → n ≤ v → occurrences v (Q s n) ≡ 0
  Q_none n v h = order_none (Q_order n) v h

  -- ---- for m ≤ n, Q(n) without numbers of m or more is Q(m)

  keep_step : (m n : ℕ) → m ≤ n → keep (below m) (Q s n) ≡ Q s m → (p : ℕ) × (p ≤ n) × (Q s (suc n) ≡ insert_at (Q s n) p n) → keep (below m) (Q s (suc n)) ≡ Q s m
  keep_step m n h e i = rw i.2 (keep_insert_at m (Q s n) i.0 n h ∙ e)

  pub Q_keep : (m n : ℕ) → m ≤ n → keep (below m) (Q s n) ≡ Q s m
  Q_keep m n h =
      le_ind {n = m} (λ j. keep (below m) (Q s j) ≡ Q s m)
      (all_keep (below m) (Q s m) (order_all (Q_order m)))
      (λ j p e. keep_step m j p e (Q_step j))
      n h
