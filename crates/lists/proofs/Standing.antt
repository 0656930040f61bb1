-- What stands when last entries that fail a test are dropped while more than k stand.
-- Assumes nothing.
use mathlib.Core.Path.{◌≡◌, refl, sym, ap, ◌∙◌}
use mathlib.Core.Bool.{Bool, true, false, cond}
use mathlib.Core.List.{List, [], ◌∷◌, ◌++◌}
use Prim.Native.Nat.{ℕ, zero, suc, ◌-◌, ◌≤◌, ◌<◌}
use native.Mathlib.Omega.{arith}
use borrow.Author.Tests.{lt-ltb, le-ltb}
use lib.Dec.{ltb}
use lib.ListN.{length, take, get_or}
use lib.Seq.{take-suc, length-take-le}
use Rattle.lists.specs.Lists.{keep, up_to, standing}
use Rattle.lists.proofs.Tests.{by_test, by_below}
use Rattle.lists.proofs.Keeping.{All, all_of_length, keep_length}
use Rattle.lists.proofs.Prefixes.{keep_snoc_yes, keep_snoc_no, up_to_append}

-- ---- a loop from the back, at its number of places

pub standing_end : (p : ℕ → Bool) (k : ℕ) (xs : List ℕ) (u : ℕ) → u ≤ k → standing p k xs u ≡ u
unfolding standing
standing_end p k xs zero h = refl
standing_end p k xs (suc u) h = rw (le-ltb k (suc u) h)

pub standing_stop : (p : ℕ → Bool) (k : ℕ) (xs : List ℕ) (u : ℕ) → k < u → p (get_or xs (u - 1) 0) ≡ true → standing p k xs u ≡ u
unfolding standing
standing_stop p k xs zero h y = refl
standing_stop p k xs (suc u) h y =
    let e : suc u - 1 ≡ u = omega arith in
    let y' : p (get_or xs u 0) ≡ true = rw e at y in
    rw (lt-ltb k (suc u) h, y')

pub standing_go : (p : ℕ → Bool) (k : ℕ) (xs : List ℕ) (u : ℕ) → k < u → p (get_or xs (u - 1) 0) ≡ false → standing p k xs u ≡ standing p k xs (u - 1)
unfolding standing
standing_go p k xs zero h m = absurd (omega arith)
standing_go p k xs (suc u) h m =
    let e : suc u - 1 ≡ u = omega arith in
    let m' : p (get_or xs u 0) ≡ false = rw e at m in
    rw (lt-ltb k (suc u) h, e, m')

pub standing_le : (p : ℕ → Bool) (k : ℕ) (xs : List ℕ) (u : ℕ) → standing p k xs u ≤ u
unfolding standing
standing_le p k xs zero = omega arith
standing_le p k xs (suc u) = step (ltb k (suc u)) (p (get_or xs u 0)) (standing_le p k xs u)
  where
    step : (a b : Bool) {s : ℕ} → s ≤ u → cond a (cond b (suc u) s) (suc u) ≤ suc u
    step true true h = omega arith
    step true false h = omega arith
    step false b h = omega arith

-- it reads a list only by a test of its entries
pub standing_same : (p q : ℕ → Bool) (k : ℕ) (xs ys : List ℕ) (u : ℕ) → ((i : ℕ) → i < u → p (get_or xs i 0) ≡ q (get_or ys i 0)) → standing p k xs u ≡ standing q k ys u
unfolding standing
standing_same p q k xs ys zero h = refl
standing_same p q k xs ys (suc u) h =
    rw (h u (omega arith), standing_same p q k xs ys u (λ i l. h i (omega arith)))

-- ---- with just k entries that pass, the part up to and with the k-th stands

up_to_whole : (p : ℕ → Bool) (k : ℕ) (xs : List ℕ) → All p xs → length xs ≤ k → up_to p k xs ≡ xs
up_to_whole p k [] a h = refl
up_to_whole p zero (x ∷ xs) a h = absurd (omega arith)
up_to_whole p (suc k) (x ∷ xs) a h = rw a.0 (ap (λ (r : List ℕ). x ∷ r) (up_to_whole p k xs a.1 (omega arith)))

-- entries with k that pass, and one more that passes
up_to_found : (p : ℕ → Bool) (k : ℕ) (ys : List ℕ) (z : ℕ) → length (keep p ys) ≡ k → p z ≡ true → up_to p (suc k) (ys ++ (z ∷ [])) ≡ ys ++ (z ∷ [])
up_to_found p zero [] z e h = refl
up_to_found p (suc k) [] z e h = absurd (omega arith)
up_to_found p k (y ∷ ys) z e h =
    by_test (p y)
    (λ t. go t k e (λ j d. up_to_found p j ys z d h))
    (λ f. rw f (ap (λ (r : List ℕ). y ∷ r) (up_to_found p k ys z (rw f at e) h)))
  where
    go : p y ≡ true → (k : ℕ) → length (keep p (y ∷ ys)) ≡ k → ((j : ℕ) → length (keep p ys) ≡ j → up_to p (suc j) (ys ++ (z ∷ [])) ≡ ys ++ (z ∷ [])) → up_to p (suc k) (y ∷ (ys ++ (z ∷ []))) ≡ y ∷ (ys ++ (z ∷ []))
    go t zero e r = absurd (let e' : suc (length (keep p ys)) ≡ 0 = rw t at e in omega arith)
    go t (suc j) e r = rw t (ap (λ (s : List ℕ). y ∷ s) (r j (let e' : suc (length (keep p ys)) ≡ suc j = rw t at e in omega arith)))

module _ (p : ℕ → Bool) (k : ℕ) (xs : List ℕ) where
  few : (u : ℕ) → u < length xs → suc u ≤ k → length (keep p (take (suc u) xs)) ≡ k → up_to p k (take (suc u) xs) ≡ take (suc u) xs
  few u h l c =
      let n : length (take (suc u) xs) ≡ suc u = length-take-le (suc u) xs h in
      up_to_whole p k (take (suc u) xs) (all_of_length p (take (suc u) xs) (omega (arith, keep_length p (take (suc u) xs)))) (omega arith)

  pub up_to_standing : (u : ℕ) → u ≤ length xs → length (keep p (take u xs)) ≡ k → up_to p k (take u xs) ≡ take (standing p k xs u) xs
  unfolding standing
  up_to_standing zero h c = refl
  up_to_standing (suc u) h c =
      let t : take (suc u) xs ≡ take u xs ++ (get_or xs u 0 ∷ []) = take-suc xs u 0 h in
      by_below k (suc u)
      (λ l. by_test (p (get_or xs u 0))
      (λ y. let n : length (keep p (take u xs)) ≡ k - 1 = omega (arith, ap (λ (r : List ℕ). length (keep p r)) t, keep_snoc_yes p (take u xs) (get_or xs u 0) y) in
      let s : suc (k - 1) ≡ k = omega (arith, ap (λ (r : List ℕ). length (keep p r)) t, keep_snoc_yes p (take u xs) (get_or xs u 0) y) in
      let f : up_to p (suc (k - 1)) (take u xs ++ (get_or xs u 0 ∷ [])) ≡ take u xs ++ (get_or xs u 0 ∷ []) = up_to_found p (k - 1) (take u xs) (get_or xs u 0) n y in
      let g : up_to p k (take u xs ++ (get_or xs u 0 ∷ [])) ≡ take u xs ++ (get_or xs u 0 ∷ []) = rw s at f in
      rw (lt-ltb k (suc u) l, y, t) g)
      (λ m. let n : length (keep p (take u xs)) ≡ k = sym (ap (λ (r : List ℕ). length (keep p r)) t ∙ keep_snoc_no p (take u xs) (get_or xs u 0) m) ∙ c in
      rw (lt-ltb k (suc u) l, m)
      (ap (up_to p k) t ∙ up_to_append p k (take u xs) (get_or xs u 0 ∷ []) (omega arith) ∙ up_to_standing u (omega arith) n)))
      (λ l. rw (le-ltb k (suc u) l) (few u h l c))
