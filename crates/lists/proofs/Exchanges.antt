-- The part of a list with k entries that pass a test, when the test comes to let one entry more pass: that one comes in,
-- and the last of the part goes out.
-- Assumes nothing.
use mathlib.Core.Path.{◌≡◌, refl, sym, ap, ◌∙◌}
use mathlib.Core.Bool.{Bool, true, false, true≢false}
use mathlib.Core.List.{List, [], ◌∷◌}
use mathlib.Core.Option.{Option, none, some}
use Prim.Native.Nat.{ℕ, suc, ◌+◌, ◌-◌, ◌≤◌, ◌<◌}
use native.Mathlib.Nat.{le_refl}
use native.Mathlib.Omega.{arith}
use lib.ListN.{length, take, length-append}
use lib.Seq.{take_all}
use Rattle.lists.specs.Lists.{keep, not_below, count_below, occurrences, up_to, standing, smallest}
use Rattle.lists.proofs.Tests.{below_yes, below_no, not_below_yes, not_below_no, same_yes, same_no, by_test, by_below}
use Rattle.lists.proofs.Keeping.{Stronger}
use Rattle.lists.proofs.Members.{occurrences_head, occurrences_tail, occurrences_append, occurrences_keep_yes, keep_passes, keep_append}
use Rattle.lists.proofs.Extremes.{AtLeast, by_min, Extreme, pick_extreme}
use Rattle.lists.proofs.Prefixes.{keep_up_to, up_to_count, up_to_up_to, up_to_append, Ends, up_to_ends, ends_front}
use Rattle.lists.proofs.Standing.{up_to_standing}

-- ---- the smallest entry that is not below n

pub record Least (n : ℕ) (xs : List ℕ) (v : ℕ) : Type 0 where
  pub listed : 0 < occurrences v xs
  pub large : n ≤ v
  pub least : (u : ℕ) → 0 < occurrences u xs → n ≤ u → v ≤ u

pub waiting_count : (n : ℕ) (xs : List ℕ) → length (keep (not_below n) xs) + count_below n xs ≡ length xs
waiting_count n [] = refl
waiting_count n (x ∷ xs) =
    by_below x n
    (λ l. rw (not_below_no x n l, below_yes x n l) (omega (arith, waiting_count n xs)))
    (λ l. rw (not_below_yes x n l, below_no x n l) (omega (arith, waiting_count n xs)))

least_of_lem : (n v : ℕ) (xs : List ℕ) → Extreme AtLeast (keep (not_below n) xs) v → Least n xs v
least_of_lem n v xs e =
    let passes : not_below n v ≡ true = keep_passes (not_below n) v xs e.there in
    record {
      listed = omega (arith, e.there, occurrences_keep_yes (not_below n) v xs passes);
      large = by_below v n (λ l. absurd (true≢false (sym passes ∙ not_below_no v n l))) (λ l. l);
      least = λ u h l. e.best u (omega (arith, occurrences_keep_yes (not_below n) u xs (not_below_yes u n l)));
    }

-- there is one, if not all are below n
pub least_exists : (n : ℕ) (xs : List ℕ) → count_below n xs < length xs → (v : ℕ) × (smallest (keep (not_below n) xs) ≡ some v) × Least n xs v
least_exists n xs h = go (smallest (keep (not_below n) xs)) refl
  where
    some_left : (ys : List ℕ) → 0 < length ys → smallest ys ≡ none → ⊥
    some_left [] p e = omega arith
    some_left (y ∷ ys) p e = let z : ◌≡◌ {A = ℕ} 0 1 = cc in omega arith

    go : (o : Option ℕ) → smallest (keep (not_below n) xs) ≡ o → (v : ℕ) × (smallest (keep (not_below n) xs) ≡ some v) × Least n xs v
    go none e = absurd (some_left (keep (not_below n) xs) (omega (arith, waiting_count n xs)) e)
    go (some v) e = (v, e, least_of_lem n v xs (pick_extreme by_min (keep (not_below n) xs) v e))

-- ---- one entry more passes

-- where v is the only entry that passes q and fails p, as many more pass q as v stands there
keep_new : (p q : ℕ → Bool) → Stronger p q → (v : ℕ) → p v ≡ false → q v ≡ true
    → (l : List ℕ) → ((u : ℕ) → 0 < occurrences u l → q u ≡ true → p u ≡ false → u ≡ v) → length (keep q l) ≡ length (keep p l) + occurrences v l
keep_new p q i v pv qv [] new = omega arith
keep_new p q i v pv qv (x ∷ l) new =
    let ih : length (keep q l) ≡ length (keep p l) + occurrences v l =
    keep_new p q i v pv qv l (λ u a b c. new u (occurrences_tail u x l a) b c) in
    by_test (p x)
    (λ y. rw (y, i x y, same_no x v (λ e. true≢false (sym y ∙ ap p e ∙ pv))) (omega arith))
    (λ m. by_test (q x)
    (λ y. rw (m, y, same_yes x v (new x (occurrences_head x l) y m)) (omega arith))
    (λ f. rw (m, f, same_no x v (λ e. true≢false (sym qv ∙ ap q (sym e) ∙ f))) ih))

module _ (p : ℕ → Bool) (k : ℕ) (xs : List ℕ) (enough : suc k ≤ length (keep p xs)) (q : ℕ → Bool) (i : Stronger p q)
    (v : ℕ) (pv : p v ≡ false) (qv : q v ≡ true) (once : occurrences v (up_to p (suc k) xs) ≡ 1)
    (new : (u : ℕ) → 0 < occurrences u (up_to p (suc k) xs) → q u ≡ true → p u ≡ false → u ≡ v) where
  ends : Ends p k xs (up_to p (suc k) xs)
  ends = up_to_ends p k xs enough

  front_count : length (keep q ends.front) ≡ suc k
  front_count =
      let a : length (keep q (up_to p (suc k) xs)) ≡ length (keep p (up_to p (suc k) xs)) + occurrences v (up_to p (suc k) xs) = keep_new p q i v pv qv (up_to p (suc k) xs) new in
      let b : length (keep q (up_to p (suc k) xs)) ≡ length (keep q ends.front) + length (keep q (ends.end ∷ [])) =
      ap (λ (r : List ℕ). length (keep q r)) ends.whole ∙ ap length (keep_append q ends.front (ends.end ∷ [])) ∙ length-append (keep q ends.front) (keep q (ends.end ∷ [])) in
      let c : length (keep q (ends.end ∷ [])) ≡ 1 = rw (i ends.end ends.passes) refl in
      omega (arith, up_to_count p (suc k) xs enough)

  front_list : up_to q (suc k) xs ≡ up_to q (suc k) ends.front
  front_list =
      sym (up_to_up_to p q i (suc k) (suc k) (le_refl (suc k)) xs)
      ∙ ap (up_to q (suc k)) ends.whole
      ∙ up_to_append q (suc k) ends.front (ends.end ∷ []) (omega (arith, front_count))

  -- without its last entry, then without last entries that fail q, it is the part for q
  pub next_part : take (standing q (suc k) (up_to p (suc k) xs) (length (up_to p (suc k) xs) - 1)) (up_to p (suc k) xs) ≡ up_to q (suc k) xs
  next_part =
      let f : take (length (up_to p (suc k) xs) - 1) (up_to p (suc k) xs) ≡ ends.front = ends_front ends in
      sym (up_to_standing q (suc k) (up_to p (suc k) xs) (length (up_to p (suc k) xs) - 1) (omega arith) (ap (λ (r : List ℕ). length (keep q r)) f ∙ front_count))
      ∙ ap (up_to q (suc k)) f ∙ sym front_list

  -- v is among the first k + 1 that pass q
  pub new_first : 0 < occurrences v (take (suc k) (keep q xs))
  new_first =
      let f : occurrences v (up_to p (suc k) xs) ≡ occurrences v ends.front + occurrences v (ends.end ∷ []) = ap (occurrences v) ends.whole ∙ occurrences_append v ends.front (ends.end ∷ []) in
      let z : occurrences v (ends.end ∷ []) ≡ 0 = rw (same_no ends.end v (λ e. true≢false (sym ends.passes ∙ ap p e ∙ pv))) refl in
      let s : take (suc k) (keep q xs) ≡ keep q ends.front =
      sym (keep_up_to q (suc k) xs)
      ∙ ap (keep q) front_list
      ∙ keep_up_to q (suc k) ends.front
      ∙ take_all (suc k) (keep q ends.front) (omega (arith, front_count)) in
      let g : occurrences v (take (suc k) (keep q xs)) ≡ occurrences v ends.front = ap (occurrences v) s ∙ occurrences_keep_yes q v ends.front qv in
      omega (arith, once)
