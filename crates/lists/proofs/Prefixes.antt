-- The part of a list up to and with its k-th entry that passes a test (`up_to`), and what stands in a part of a list.
-- Assumes nothing.
use mathlib.Core.Path.{◌≡◌, refl, sym, ap, ◌∙◌, subst}
use mathlib.Core.Bool.{Bool, true, false, true≢false}
use mathlib.Core.List.{List, [], ◌∷◌, ◌++◌}
use Prim.Native.Nat.{ℕ, zero, suc, ◌+◌, ◌-◌, ◌≤◌, ◌<◌, zero-le, suc-le-suc}
use native.Mathlib.Nat.{le_refl}
use native.Mathlib.Omega.{arith}
use lib.ListN.{length, take, get_or, length-append}
use lib.Seq.{take-nil, take_at, get_or_at, length-take-le}
use Rattle.lists.specs.Lists.{put, keep, left, up_to, more, same, occurrences}
use Rattle.lists.proofs.Tests.{same_no, by_test}
use Rattle.lists.proofs.Keeping.{All, all_of_length, keep_length, Stronger}
use Rattle.lists.proofs.Members.{occurrences_head, occurrences_tail, occurrences_keep_yes, occurrences_keep_no, keep_append}

-- ---- how often a number stands in a part

-- one entry: an inequality between occurrences is kept
pub occurrences_both : (v x : ℕ) {a b : ℕ} → a ≤ b → more (same v x) a ≤ more (same v x) b
occurrences_both v x {a} {b} h = by_test (same v x) (λ y. rw y (suc-le-suc h)) (λ y. rw y h)

pub occurrences_take : (v k : ℕ) (xs : List ℕ) → occurrences v (take k xs) ≤ occurrences v xs
occurrences_take v k [] = rw (take-nil {A = ℕ} k) (omega arith)
occurrences_take v zero (x ∷ xs) = zero-le
occurrences_take v (suc k) (x ∷ xs) = occurrences_both v x (occurrences_take v k xs)

pub occurrences_keep : (p : ℕ → Bool) (v : ℕ) (xs : List ℕ) → occurrences v (keep p xs) ≤ occurrences v xs
occurrences_keep p v xs = by_test (p v) (λ y. omega (arith, occurrences_keep_yes p v xs y)) (λ n. omega (arith, occurrences_keep_no p v xs n))

pub occurrences_up_to : (p : ℕ → Bool) (v k : ℕ) (xs : List ℕ) → occurrences v (up_to p k xs) ≤ occurrences v xs
occurrences_up_to p v k [] = zero-le
occurrences_up_to p v zero (x ∷ xs) = zero-le
occurrences_up_to p v (suc k) (x ∷ xs) = occurrences_both v x (occurrences_up_to p v (left (p x) k) xs)

pub occurrences_at : (xs : List ℕ) (t : ℕ) → t < length xs → 0 < occurrences (get_or xs t 0) xs
occurrences_at [] t h = absurd (omega arith)
occurrences_at (x ∷ xs) zero h = occurrences_head x xs
occurrences_at (x ∷ xs) (suc t) h = occurrences_tail (get_or xs t 0) x xs (occurrences_at xs t (omega arith))

-- a number that passes and is among the first k of all is among the first k of those that pass
pub occurrences_first : (p : ℕ → Bool) (v : ℕ) → p v ≡ true → (k k' : ℕ) → k ≤ k' → (xs : List ℕ) → occurrences v (take k xs) ≤ occurrences v (take k' (keep p xs))
occurrences_first p v h k k' l [] = rw (take-nil {A = ℕ} k) zero-le
occurrences_first p v h zero k' l (x ∷ xs) = zero-le
occurrences_first p v h (suc k) zero l (x ∷ xs) = absurd (omega arith)
occurrences_first p v h (suc k) (suc k') l (x ∷ xs) =
    by_test (p x)
    (λ y. rw y (occurrences_both v x (occurrences_first p v h k k' (omega arith) xs)))
    (λ m. rw (m, same_no x v (λ e. true≢false (sym h ∙ ap p (sym e) ∙ m))) (occurrences_first p v h k (suc k') (omega arith) xs))

-- ---- what is kept of a part

pub keep_take : (p : ℕ → Bool) (k : ℕ) (xs : List ℕ) → keep p (take k xs) ≡ take (length (keep p (take k xs))) (keep p xs)
keep_take p zero xs = refl
keep_take p (suc k) [] = refl
keep_take p (suc k) (x ∷ xs) =
    by_test (p x)
    (λ y. rw y (ap (λ (r : List ℕ). x ∷ r) (keep_take p k xs)))
    (λ m. rw m (keep_take p k xs))

pub keep_take_le : (p : ℕ → Bool) (k : ℕ) (xs : List ℕ) → length (keep p (take k xs)) ≤ length (keep p xs)
keep_take_le p zero xs = zero-le
keep_take_le p (suc k) [] = zero-le
keep_take_le p (suc k) (x ∷ xs) =
    by_test (p x)
    (λ y. rw y (omega (arith, keep_take_le p k xs)))
    (λ m. rw m (keep_take_le p k xs))

pub keep_snoc_yes : (p : ℕ → Bool) (xs : List ℕ) (z : ℕ) → p z ≡ true → length (keep p (xs ++ (z ∷ []))) ≡ suc (length (keep p xs))
keep_snoc_yes p xs z h =
    ap length (keep_append p xs (z ∷ [])) ∙ length-append (keep p xs) (keep p (z ∷ []))
    ∙ ap (λ (b : Bool). length (keep p xs) + length (put b z [])) h ∙ omega arith

pub keep_snoc_no : (p : ℕ → Bool) (xs : List ℕ) (z : ℕ) → p z ≡ false → length (keep p (xs ++ (z ∷ []))) ≡ length (keep p xs)
keep_snoc_no p xs z h =
    ap length (keep_append p xs (z ∷ [])) ∙ length-append (keep p xs) (keep p (z ∷ []))
    ∙ ap (λ (b : Bool). length (keep p xs) + length (put b z [])) h ∙ omega arith

-- ---- up to and with the k-th that passes

pub up_to_zero : (p : ℕ → Bool) (xs : List ℕ) → up_to p 0 xs ≡ []
up_to_zero p [] = refl
up_to_zero p (x ∷ xs) = refl

-- it is a part from the start
pub up_to_take : (p : ℕ → Bool) (k : ℕ) (xs : List ℕ) → up_to p k xs ≡ take (length (up_to p k xs)) xs
up_to_take p k [] = refl
up_to_take p zero (x ∷ xs) = refl
up_to_take p (suc k) (x ∷ xs) = ap (λ (r : List ℕ). x ∷ r) (up_to_take p (left (p x) k) xs)

-- its entries that pass are the first k that pass
pub keep_up_to : (p : ℕ → Bool) (k : ℕ) (xs : List ℕ) → keep p (up_to p k xs) ≡ take k (keep p xs)
keep_up_to p k [] = sym (take-nil k)
keep_up_to p zero (x ∷ xs) = refl
keep_up_to p (suc k) (x ∷ xs) =
    by_test (p x)
    (λ y. rw y (ap (λ (r : List ℕ). x ∷ r) (keep_up_to p k xs)))
    (λ y. rw y (keep_up_to p (suc k) xs))

pub up_to_count : (p : ℕ → Bool) (k : ℕ) (xs : List ℕ) → k ≤ length (keep p xs) → length (keep p (up_to p k xs)) ≡ k
up_to_count p k xs h = ap length (keep_up_to p k xs) ∙ length-take-le k (keep p xs) h

pub up_to_long : (p : ℕ → Bool) (k : ℕ) (xs : List ℕ) → k ≤ length (keep p xs) → k ≤ length (up_to p k xs)
up_to_long p k xs h = omega (arith, up_to_count p k xs h, keep_length p (up_to p k xs))

-- with k entries only, all of them pass
pub up_to_all : (p : ℕ → Bool) (k : ℕ) (xs : List ℕ) → k ≤ length (keep p xs) → length (up_to p k xs) ≡ k → All p (up_to p k xs)
up_to_all p k xs h e = all_of_length p (up_to p k xs) (up_to_count p k xs h ∙ sym e)

pub all_up_to : (p q : ℕ → Bool) (k : ℕ) (xs : List ℕ) → All q xs → All q (up_to p k xs)
all_up_to p q k [] a = tt
all_up_to p q zero (x ∷ xs) a = tt
all_up_to p q (suc k) (x ∷ xs) a = (a.0, all_up_to p q (left (p x) k) xs a.1)

-- for a weaker test, the part for the stronger test serves as the whole list
pub up_to_up_to : (p q : ℕ → Bool) → Stronger p q → (k' k : ℕ) → k' ≤ k → (xs : List ℕ) → up_to q k' (up_to p k xs) ≡ up_to q k' xs
up_to_up_to p q i k' k h [] = refl
up_to_up_to p q i zero zero h (x ∷ xs) = refl
up_to_up_to p q i zero (suc k) h (x ∷ xs) = refl
up_to_up_to p q i (suc k') zero h (x ∷ xs) = absurd (omega arith)
up_to_up_to p q i (suc k') (suc k) h (x ∷ xs) = ap (λ (r : List ℕ). x ∷ r) (up_to_up_to p q i (left (q x) k') (left (p x) k) g xs)
  where
    g : left (q x) k' ≤ left (p x) k
    g = by_test (p x)
        (λ y. rw (y, i x y) (omega arith))
        (λ m. rw m (by_test (q x) (λ y. rw y (omega arith)) (λ y. rw y (omega arith))))

-- so the first k that pass a weaker test stand in it
take_up_to : (p q : ℕ → Bool) → Stronger p q → (k : ℕ) (xs : List ℕ) → take k (keep q (up_to p k xs)) ≡ take k (keep q xs)
take_up_to p q i k xs =
    sym (keep_up_to q k (up_to p k xs)) ∙ ap (keep q) (up_to_up_to p q i k k (le_refl k) xs) ∙ keep_up_to q k xs

pub occurrences_up_to_first : (p q : ℕ → Bool) → Stronger p q → (v k : ℕ) (xs : List ℕ) → occurrences v (take k (keep q xs)) ≤ occurrences v (up_to p k xs)
occurrences_up_to_first p q i v k xs = rw (← take_up_to p q i k xs) (omega (arith, occurrences_take v k (keep q (up_to p k xs)), occurrences_keep q v (up_to p k xs)))

-- if the list has enough entries, so has the rest of it
-- past a front part that has fewer
pub up_to_past : (p : ℕ → Bool) (k : ℕ) (xs ys : List ℕ) → length (keep p xs) < k → length (up_to p k (xs ++ ys)) ≡ length xs + length (up_to p (k - length (keep p xs)) ys)
up_to_past p k [] ys h = let e : k - 0 ≡ k = omega arith in rw e (omega arith)
up_to_past p zero (x ∷ xs) ys h = absurd (omega arith)
up_to_past p (suc k) (x ∷ xs) ys h =
    by_test (p x)
    (λ y. let h' : suc (length (keep p xs)) < suc k = rw y at h in
    let e : suc k - suc (length (keep p xs)) ≡ k - length (keep p xs) = omega arith in
    rw (y, e) (ap suc (up_to_past p k xs ys (omega arith)) ∙ omega arith))
    (λ m. let h' : length (keep p xs) < suc k = rw m at h in rw m (ap suc (up_to_past p (suc k) xs ys h') ∙ omega arith))

pub left_fits : (p : ℕ → Bool) (k x : ℕ) (xs : List ℕ) → suc k ≤ length (keep p (x ∷ xs)) → left (p x) k ≤ length (keep p xs)
left_fits p k x xs h =
    by_test (p x)
    (λ y. rw y (let h' : suc k ≤ suc (length (keep p xs)) = rw y at h in omega arith))
    (λ y. rw y (rw y at h))

-- what stands behind enough entries does not matter
pub up_to_append : (p : ℕ → Bool) (k : ℕ) (xs ys : List ℕ) → k ≤ length (keep p xs) → up_to p k (xs ++ ys) ≡ up_to p k xs
up_to_append p zero [] ys h = up_to_zero p ys
up_to_append p (suc k) [] ys h = absurd (omega arith)
up_to_append p zero (x ∷ xs) ys h = refl
up_to_append p (suc k) (x ∷ xs) ys h = ap (λ (r : List ℕ). x ∷ r) (up_to_append p (left (p x) k) xs ys (left_fits p k x xs h))

-- ---- the last entry of such a part

-- l as a front and its last entry, which passes, and is the entry with number k, from 0, of those of xs that pass
pub record Ends (p : ℕ → Bool) (k : ℕ) (xs l : List ℕ) : Type 0 where
  pub front : List ℕ
  pub end : ℕ
  pub whole : l ≡ front ++ (end ∷ [])
  pub passes : p end ≡ true
  pub is_kth : end ≡ get_or (keep p xs) k 0

ends_cons : (p : ℕ → Bool) (k x : ℕ) (xs l : List ℕ) → p x ≡ false → Ends p k xs l → Ends p k (x ∷ xs) (x ∷ l)
ends_cons p k x xs l m e = record {
  front = x ∷ e.front;
  end = e.end;
  whole = ap (λ (r : List ℕ). x ∷ r) e.whole;
  passes = e.passes;
  is_kth = rw m e.is_kth;
}

ends_more : (p : ℕ → Bool) (k x : ℕ) (xs l : List ℕ) → p x ≡ true → Ends p k xs l → Ends p (suc k) (x ∷ xs) (x ∷ l)
ends_more p k x xs l y e = record {
  front = x ∷ e.front;
  end = e.end;
  whole = ap (λ (r : List ℕ). x ∷ r) e.whole;
  passes = e.passes;
  is_kth = rw y e.is_kth;
}

ends_here : (p : ℕ → Bool) (x : ℕ) (xs l : List ℕ) → p x ≡ true → l ≡ [] → Ends p 0 (x ∷ xs) (x ∷ l)
ends_here p x xs l y e = record { front = []; end = x; whole = ap (λ (r : List ℕ). x ∷ r) e; passes = y; is_kth = rw y refl }

pub up_to_ends : (p : ℕ → Bool) (k : ℕ) (xs : List ℕ) → k < length (keep p xs) → Ends p k xs (up_to p (suc k) xs)
up_to_ends p k [] h = absurd (omega arith)
up_to_ends p zero (x ∷ xs) h =
    by_test (p x)
    (λ y. subst (λ (b : Bool). Ends p 0 (x ∷ xs) (x ∷ up_to p (left b 0) xs)) (sym y) (ends_here p x xs (up_to p 0 xs) y (up_to_zero p xs)))
    (λ m. subst (λ (b : Bool). Ends p 0 (x ∷ xs) (x ∷ up_to p (left b 0) xs)) (sym m) (ends_cons p 0 x xs (up_to p 1 xs) m (up_to_ends p 0 xs (rw m at h))))
up_to_ends p (suc k) (x ∷ xs) h =
    by_test (p x)
    (λ y. subst (λ (b : Bool). Ends p (suc k) (x ∷ xs) (x ∷ up_to p (left b (suc k)) xs)) (sym y)
    (ends_more p k x xs (up_to p (suc k) xs) y (up_to_ends p k xs (let h' : suc k < suc (length (keep p xs)) = rw y at h in omega arith))))
    (λ m. subst (λ (b : Bool). Ends p (suc k) (x ∷ xs) (x ∷ up_to p (left b (suc k)) xs)) (sym m)
    (ends_cons p (suc k) x xs (up_to p (suc (suc k)) xs) m (up_to_ends p (suc k) xs (rw m at h))))

module _ {p : ℕ → Bool} {k : ℕ} {xs l : List ℕ} (e : Ends p k xs l) where
  pub ends_length : length l ≡ suc (length e.front)
  ends_length = ap length e.whole ∙ length-append e.front (e.end ∷ []) ∙ omega arith

  front_length : length e.front ≡ length l - 1
  front_length = omega (arith, ends_length)

  pub ends_front : take (length l - 1) l ≡ e.front
  ends_front = ap (take (length l - 1)) e.whole ∙ take_at e.front (e.end ∷ []) (length l - 1) front_length

  pub ends_end : get_or l (length l - 1) 0 ≡ e.end
  ends_end = ap (λ (r : List ℕ). get_or r (length l - 1) 0) e.whole ∙ get_or_at e.front e.end [] 0 (length l - 1) front_length
