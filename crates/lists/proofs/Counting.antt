-- Counting: a list of N numbers below N in which no number stands twice has exactly n entries below n, for every n up to N.
-- Assumes nothing.
use mathlib.Core.Path.{◌≡◌, refl, sym, ap, ◌∙◌}
use mathlib.Core.List.{List, [], ◌∷◌}
use Prim.Native.Nat.{ℕ, zero, suc, ◌+◌, ◌-◌, ◌≤◌, ◌<◌}
use native.Mathlib.Nat.{le_refl, add-suc, add-zero}
use native.Mathlib.Omega.{arith}
use lib.ListN.{length}
use Rattle.lists.specs.Lists.{keep, below, occurrences, count_below}
use Rattle.lists.proofs.Tests.{below_yes, below_no, same_yes, same_no, by_test, by_below, by_same, by_three}
use Rattle.lists.proofs.Keeping.{All, all_keep, all_of_length, keep_keep, below_below}

-- one more number below: as often as it stands there
pub count_step : (n : ℕ) (xs : List ℕ) → count_below (suc n) xs ≡ count_below n xs + occurrences n xs
count_step n [] = omega arith
count_step n (x ∷ xs) =
    by_three x n
    (λ h. rw (below_yes x (suc n) (omega arith), below_yes x n h, same_no x n (omega arith)) (omega (arith, count_step n xs)))
    (λ e. rw (below_yes x (suc n) (omega arith), below_no x n (omega arith), same_yes x n e) (omega (arith, count_step n xs)))
    (λ h. rw (below_no x (suc n) (omega arith), below_no x n (omega arith), same_no x n (omega arith)) (omega (arith, count_step n xs)))

pub count_zero : (xs : List ℕ) → count_below 0 xs ≡ 0
count_zero [] = refl
count_zero (x ∷ xs) = rw (below_no x 0 (omega arith)) (count_zero xs)

-- no number twice: at most n entries below n, and e more numbers add at most e entries
pub count_le : (xs : List ℕ) → ((v : ℕ) → occurrences v xs ≤ 1) → (n : ℕ) → count_below n xs ≤ n
count_le xs d zero = omega (arith, count_zero xs)
count_le xs d (suc n) = omega (arith, count_step n xs, count_le xs d n, d n)

pub count_add : (xs : List ℕ) → ((v : ℕ) → occurrences v xs ≤ 1) → (n e : ℕ) → count_below (n + e) xs ≤ count_below n xs + e
count_add xs d n zero = rw (add-zero n) (omega arith)
count_add xs d n (suc e) = rw (add-suc n e) (omega (arith, count_step (n + e) xs, count_add xs d n e, d (n + e)))

-- ---- an order of 0..N: N numbers, of which n are below n, for every n up to N

pub record Order (N : ℕ) (xs : List ℕ) : Type 0 where
  pub size : length xs ≡ N
  pub counts : (n : ℕ) → n ≤ N → count_below n xs ≡ n

-- N numbers below N, none twice, are an order of 0..N
pub order_of_lem : (N : ℕ) (xs : List ℕ) → length xs ≡ N → All (below N) xs → ((v : ℕ) → occurrences v xs ≤ 1) → Order N xs
order_of_lem N xs l a d = record { size = l; counts = c }
  where
    full : count_below N xs ≡ N
    full = ap length (all_keep (below N) xs a) ∙ l

    c : (n : ℕ) → n ≤ N → count_below n xs ≡ n
    c n h =
        let u : count_below (n + (N - n)) xs ≤ count_below n xs + (N - n) = count_add xs d n (N - n) in
        let e : n + (N - n) ≡ N = omega arith in
        let u' : count_below N xs ≤ count_below n xs + (N - n) = rw e at u in
        omega (arith, full, count_le xs d n)

-- an entry not below n is not counted
pub occurrences_count : (v n : ℕ) → n ≤ v → (xs : List ℕ) → occurrences v xs + count_below n xs ≤ length xs
occurrences_count v n l [] = omega arith
occurrences_count v n l (x ∷ xs) =
    by_same x v
    (λ e. rw (same_yes x v e, below_no x n (omega arith)) (omega (arith, occurrences_count v n l xs)))
    (λ d. rw (same_no x v d) (by_test (below n x) (λ y. rw y (omega (arith, occurrences_count v n l xs))) (λ m. rw m (omega (arith, occurrences_count v n l xs)))))

module _ {N : ℕ} {xs : List ℕ} (o : Order N xs) where
  -- each number below N stands there once
  pub order_once : (v : ℕ) → v < N → occurrences v xs ≡ 1
  order_once v h = omega (arith, count_step v xs, o.counts v (omega arith), o.counts (suc v) h)

  -- and no other stands there
  pub order_none : (v : ℕ) → N ≤ v → occurrences v xs ≡ 0
  order_none v h = omega (arith, occurrences_count v N h xs, o.counts N (le_refl N), o.size)

  pub order_occurrences : (v : ℕ) → occurrences v xs ≤ 1
  order_occurrences v = by_below v N (λ h. omega (arith, order_once v h)) (λ h. omega (arith, order_none v h))

  pub order_all : All (below N) xs
  order_all = all_of_length (below N) xs (o.counts N (le_refl N) ∙ sym o.size)

  -- the numbers below n of an order of 0..N are an order of 0..n
  pub order_part : (n : ℕ) → n ≤ N → Order n (keep (below n) xs)
  order_part n h = record {
    size = o.counts n h;
    counts = λ m k. ap length (keep_keep (below m) (below n) (below_below k) xs) ∙ o.counts m (omega arith);
  }
