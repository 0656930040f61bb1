-- The orders: whole j has each number below 4^(j+1) once, its numbers below 4^j are whole (j−1), and so P(n) is P(n') with
-- the numbers of n or more dropped.
-- Assumes nothing.
use mathlib.Core.Path.{◌≡◌, refl, sym, ap, ◌∙◌, subst, fun_ext}
use mathlib.Core.Bool.{Bool}
use mathlib.Core.List.{List, [], ◌∷◌}
use Prim.Native.Nat.{ℕ, zero, suc, ◌+◌, ◌-◌, ◌^◌, ◌≤◌, ◌<◌}
use native.Mathlib.Nat.{add-suc, add-zero, le_refl}
use native.Mathlib.Omega.{arith}
use lib.ListN.{length, length-replicate, get_or-replicate}
use Rattle.lists.specs.Lists.{keep, below, same, occurrences, count_below, replace}
use Rattle.lists.proofs.Tests.{below_yes, by_test, by_below}
use Rattle.lists.proofs.Keeping.{Stronger, all_keep, keep_keep, below_below}
use Rattle.lists.proofs.Counting.{Order, order_of_lem, order_all, order_once, order_none, order_part}
use Rattle.lists.proofs.Permutations.{image_order}
use Rattle.lists.proofs.Replacing.{replace_zero, order_keep, order_replace}
use Rattle.layers.specs.Layer.{size}
use Rattle.layers.proofs.Permutes.{layer_permutes, top_zero}
use Rattle.orders.specs.Orders.{layer_of, counter, zero_top, next_numbers, none_counted, whole, P}
use Rattle.orders.specs.Reservoirs.{outputs}
use Rattle.orders.specs.InnerPasses.{arranged}
use Rattle.orders.proofs.LogLaws.{size_suc, layer_fits, layer_in, pow_up}
use Rattle.orders.proofs.WalkLaws.{zeros, numbers_suc, numbers_zero}

-- top bits 00 say: below 4^j
pub zero_top_lem : (j : ℕ) → zero_top j ≡ below (4 ^ j)
unfolding zero_top
zero_top_lem j = fun_ext (λ y. top_zero j y)

order_one : Order 1 (0 ∷ [])
order_one = order_of_lem 1 (0 ∷ []) refl (below_yes 0 1 (omega arith), tt) (λ v. by_test (same v 0) (λ y. rw y (omega arith)) (λ y. rw y (omega arith)))

module _ (key : ℕ) where
  pub outputs_order : (j : ℕ) → Order (4 ^ suc j) (outputs key j)
  outputs_order j = subst (λ (N : ℕ). Order N (outputs key j)) (size_suc j) (image_order (layer_permutes j key))

  pub arranged_order : (m : ℕ) → Order (4 ^ m) (arranged key m)
  unfolding arranged
  arranged_order zero = order_one
  arranged_order (suc j) = order_replace (outputs_order j) (arranged_order j) (omega arith)

  -- exactly 4^j outputs of layer j are below 4^j
  pub low_outputs : (j : ℕ) → count_below (4 ^ j) (outputs key j) ≡ 4 ^ j
  low_outputs j = (outputs_order j).counts (4 ^ j) (omega arith)

  -- the numbers below 4^m of the next order are the order
  arranged_step : (m : ℕ) → keep (below (4 ^ m)) (arranged key (suc m)) ≡ arranged key m
  unfolding arranged
  arranged_step m = order_keep (outputs_order m) (arranged_order m) (omega arith)

  -- and so are those of every later one that pass a test which no number from 4^m up passes
  pub arranged_later : (p : ℕ → Bool) (m : ℕ) → Stronger p (below (4 ^ m)) → (e : ℕ) → keep p (arranged key (m + e)) ≡ keep p (arranged key m)
  arranged_later p m s zero = rw (add-zero m) refl
  arranged_later p m s (suc e) =
      rw (add-suc m e)
      (sym (keep_keep p (below (4 ^ (m + e))) (λ x y. below_below (pow_up m (m + e) (omega arith)) x (s x y)) (arranged key (suc (m + e))))
      ∙ ap (keep p) (arranged_step (m + e))
      ∙ arranged_later p m s e)

  same_arranged : (n m m' : ℕ) → n ≤ 4 ^ m → n ≤ 4 ^ m' → keep (below n) (arranged key m) ≡ keep (below n) (arranged key m')
  same_arranged n m m' h h' =
      by_below m m'
      (λ l. let e : m + (m' - m) ≡ m' = omega arith in sym (rw e at (arranged_later (below n) m (below_below h) (m' - m))))
      (λ l. let e : m' + (m - m') ≡ m = omega arith in rw e at (arranged_later (below n) m' (below_below h') (m - m')))

  -- ---- the walk gives them

  walked : (j : ℕ) (cs : List ℕ) → j < length cs → ((i : ℕ) → i ≤ j → counter cs i ≡ 0) → next_numbers key j (size j) cs ≡ arranged key (suc j)
  unfolding arranged
  walked zero cs l z =
      numbers_zero key (size 0) 0 cs (z 0 (omega arith)) l
      ∙ ap (λ (p : ℕ → Bool). replace p (outputs key 0) []) (zero_top_lem 0)
      ∙ replace_zero (below 1) (outputs key 0)
  walked (suc j) cs l z =
      let c : zeros key (suc j) 0 (size (suc j)) ≡ size j =
      ap (λ (p : ℕ → Bool). length (keep p (outputs key (suc j)))) (zero_top_lem (suc j)) ∙ low_outputs (suc j) ∙ sym (size_suc j) in
      numbers_suc key j (size (suc j)) 0 cs (z (suc j) (omega arith)) l
      ∙ ap (λ (d : ℕ). replace (zero_top (suc j)) (outputs key (suc j)) (next_numbers key j d cs)) c
      ∙ ap (replace (zero_top (suc j)) (outputs key (suc j))) (walked j cs (omega arith) (λ i h. z i (omega arith)))
      ∙ ap (λ (p : ℕ → Bool). replace p (outputs key (suc j)) (arranged key (suc j))) (zero_top_lem (suc j))

  pub whole_arranged : (j : ℕ) → j ≤ 14 → whole key j ≡ arranged key (suc j)
  unfolding whole
  whole_arranged j h = walked j none_counted (omega (arith, length-replicate {A = ℕ} 15 0)) (λ i k. get_or-replicate 15 i 0 0 (omega arith))

  -- ---- whole j

  -- it has each number below 4^(j+1) exactly once, and no other
  pub whole_order : (j : ℕ) → j ≤ 14 → Order (4 ^ suc j) (whole key j)
  whole_order j h = subst (λ (xs : List ℕ). Order (4 ^ suc j) xs) (sym (whole_arranged j h)) (arranged_order (suc j))

  pub whole_once : (j v : ℕ) → j ≤ 14 → v < 4 ^ suc j → occurrences v (whole key j) ≡ 1
  whole_once j v h l = order_once (whole_order j h) v l

  pub whole_none : (j v : ℕ) → j ≤ 14 → 4 ^ suc j ≤ v → occurrences v (whole key j) ≡ 0
  whole_none j v h l = order_none (whole_order j h) v l

  -- its numbers below 4^j are the whole of the layer below
  pub whole_step : (j : ℕ) → suc j ≤ 14 → keep (below (4 ^ suc j)) (whole key (suc j)) ≡ whole key j
  whole_step j h = ap (keep (below (4 ^ suc j))) (whole_arranged (suc j) h) ∙ arranged_step (suc j) ∙ sym (whole_arranged j (omega arith))

  -- ---- P(n), for n up to 2^30

  -- it is the numbers below n of any of the orders that hold n
  pub P_at : (n m : ℕ) → n ≤ 2 ^ 30 → n ≤ 4 ^ m → P key n ≡ keep (below n) (arranged key m)
  unfolding P
  P_at n m b h = ap (keep (below n)) (whole_arranged (layer_of n) (layer_in n b)) ∙ same_arranged n (suc (layer_of n)) m (layer_fits n) h

  -- of every whole that holds n
  pub P_whole : (n j : ℕ) → n ≤ 2 ^ 30 → j ≤ 14 → n ≤ 4 ^ suc j → P key n ≡ keep (below n) (whole key j)
  P_whole n j b h l = P_at n (suc j) b l ∙ ap (keep (below n)) (sym (whole_arranged j h))

  pub P_size : (j : ℕ) → j ≤ 14 → P key (size j) ≡ whole key j
  P_size j h =
      let b : 4 ^ suc j ≤ 4 ^ 15 = pow_up (suc j) 15 (omega arith) in
      rw (size_suc j)
      (P_whole (4 ^ suc j) j b h (le_refl (4 ^ suc j)) ∙ all_keep (below (4 ^ suc j)) (whole key j) (order_all (whole_order j h)))

  -- the numbers below n of a later order are P(n)
  pub P_part : (n n' : ℕ) → n ≤ n' → n' ≤ 2 ^ 30 → keep (below n) (P key n') ≡ P key n
  P_part n n' h b =
      ap (keep (below n)) (P_at n' 15 b b)
      ∙ keep_keep (below n) (below n') (below_below h) (arranged key 15)
      ∙ sym (P_at n 15 (omega arith) (omega arith))

  -- it has exactly the numbers below n, each once
  pub P_order : (n : ℕ) → n ≤ 2 ^ 30 → Order n (P key n)
  P_order n b = subst (λ (xs : List ℕ). Order n xs) (sym (P_at n 15 b b)) (order_part (arranged_order 15) n b)

  pub P_length : (n : ℕ) → n ≤ 2 ^ 30 → length (P key n) ≡ n
  P_length n b = (P_order n b).size

  pub P_once : (n v : ℕ) → n ≤ 2 ^ 30 → v < n → occurrences v (P key n) ≡ 1
  P_once n v b h = order_once (P_order n b) v h

  pub P_none : (n v : ℕ) → n ≤ 2 ^ 30 → n ≤ v → occurrences v (P key n) ≡ 0
  P_none n v b h = order_none (P_order n b) v h
