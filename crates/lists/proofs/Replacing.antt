-- A list in which the entries that pass a test are replaced, in order, by the entries of another list.
-- Assumes nothing.
use mathlib.Core.Path.{◌≡◌, refl, sym, ap, ◌∙◌}
use mathlib.Core.Bool.{Bool, true, cond}
use mathlib.Core.List.{List, [], ◌∷◌}
use Prim.Native.Nat.{ℕ, zero, suc, ◌≤◌, ◌<◌}
use native.Mathlib.Omega.{arith}
use lib.ListN.{length, take, drop, get_or}
use lib.Seq.{take-nil, get_or-drop}
use Rattle.lists.specs.Lists.{keep, below, count_below, left, up_to, replace}
use Rattle.lists.proofs.Tests.{by_test, by_below}
use Rattle.lists.proofs.Keeping.{All, Stronger, below_below, weaker_no, keep_keep, all_drop, all_at}
use Rattle.lists.proofs.Counting.{Order, order_all}
use Rattle.lists.proofs.Prefixes.{up_to_zero, left_fits}

pub replace_length : (r : ℕ → Bool) (s l : List ℕ) → length (replace r s l) ≡ length s
replace_length r [] l = refl
replace_length r (x ∷ s) l = ap suc (replace_length r s (cond (r x) (drop 1 l) l))

-- an entry, by its index
pub replace_at : (r : ℕ → Bool) (s l : List ℕ) (i : ℕ) → i < length s
    → get_or (replace r s l) i 0 ≡ cond (r (get_or s i 0)) (get_or l (length (keep r (take i s))) 0) (get_or s i 0)
replace_at r [] l i h = absurd (omega arith)
replace_at r (x ∷ s) l zero h = refl
replace_at r (x ∷ s) l (suc i) h =
    by_test (r x)
    (λ y. rw y (replace_at r s (drop 1 l) i (omega arith) ∙ ap (λ (n : ℕ). cond (r (get_or s i 0)) n (get_or s i 0)) (get_or-drop 1 l (length (keep r (take i s))) 0 ∙ ap (λ (n : ℕ). get_or l n 0) (omega arith))))
    (λ m. rw m (replace_at r s l i (omega arith)))

pub replace_take : (r : ℕ → Bool) (e : ℕ) (s l : List ℕ) → take e (replace r s l) ≡ replace r (take e s) l
replace_take r e [] l = rw (take-nil {A = ℕ} e)
replace_take r zero (x ∷ s) l = refl
replace_take r (suc e) (x ∷ s) l = ap (λ (t : List ℕ). cond (r x) (get_or l 0 0) x ∷ t) (replace_take r e s (cond (r x) (drop 1 l) l))

-- no more entries of l are used than pass
pub replace_front : (r : ℕ → Bool) (t : ℕ) (s l : List ℕ) → length (keep r s) ≤ t → replace r s (take t l) ≡ replace r s l
replace_front r t [] l h = refl
replace_front r t (x ∷ s) [] h = rw (take-nil {A = ℕ} t)
replace_front r zero (x ∷ s) (y ∷ l) h =
    by_test (r x)
    (λ e. absurd (let h' : suc (length (keep r s)) ≤ 0 = rw e at h in omega arith))
    (λ e. rw e (ap (λ (z : List ℕ). x ∷ z) (replace_front r zero s (y ∷ l) (rw e at h))))
replace_front r (suc t) (x ∷ s) (y ∷ l) h =
    by_test (r x)
    (λ e. rw e (ap (λ (z : List ℕ). y ∷ z) (replace_front r t s l (let h' : suc (length (keep r s)) ≤ suc t = rw e at h in omega arith))))
    (λ e. rw e (ap (λ (z : List ℕ). x ∷ z) (replace_front r (suc t) s (y ∷ l) (rw e at h))))

pub replace_same : (r : ℕ → Bool) (t : ℕ) (s l m : List ℕ) → length (keep r s) ≤ t → take t l ≡ take t m → replace r s l ≡ replace r s m
replace_same r t s l m h e = sym (replace_front r t s l h) ∙ ap (replace r s) e ∙ replace_front r t s m h

-- where nothing is left of l the place gets 0
pub replace_zero : (r : ℕ → Bool) (s : List ℕ) → replace r s [] ≡ replace r s (0 ∷ [])
replace_zero r [] = refl
replace_zero r (x ∷ s) = by_test (r x) (λ y. rw y refl) (λ m. rw m (ap (λ (t : List ℕ). x ∷ t) (replace_zero r s)))

-- where all entries pass, the result is the other list
pub replace_all : (r : ℕ → Bool) (s l : List ℕ) → length s ≡ length l → All r s → replace r s l ≡ l
replace_all r [] [] e a = refl
replace_all r [] (y ∷ l) e a = absurd (omega arith)
replace_all r (x ∷ s) [] e a = absurd (omega arith)
replace_all r (x ∷ s) (y ∷ l) e a = rw a.0 (ap (λ (z : List ℕ). y ∷ z) (replace_all r s l (omega arith) a.1))

-- ---- entries that pass put in the place of entries that pass

-- those that pass are then the other list
pub replace_keep : (r : ℕ → Bool) (s l : List ℕ) → All r l → length l ≡ length (keep r s) → keep r (replace r s l) ≡ l
replace_keep r [] [] a e = refl
replace_keep r [] (y ∷ l) a e = absurd (omega arith)
replace_keep r (x ∷ s) [] a e =
    by_test (r x)
    (λ h. absurd (let e' : 0 ≡ suc (length (keep r s)) = rw h at e in omega arith))
    (λ h. rw (h, h) (replace_keep r s [] tt (rw h at e)))
replace_keep r (x ∷ s) (y ∷ l) a e =
    by_test (r x)
    (λ h. rw (h, a.0) (ap (λ (t : List ℕ). y ∷ t) (replace_keep r s l a.1 (let e' : suc (length l) ≡ suc (length (keep r s)) = rw h at e in omega arith))))
    (λ h. rw (h, h) (replace_keep r s (y ∷ l) a (rw h at e)))

-- as many entries as before pass a weaker test
pub replace_count : (r q : ℕ → Bool) → Stronger r q → (s l : List ℕ) → All r l → length l ≡ length (keep r s) → length (keep q (replace r s l)) ≡ length (keep q s)
replace_count r q i [] l a e = refl
replace_count r q i (x ∷ s) [] a e =
    by_test (r x)
    (λ h. absurd (let e' : 0 ≡ suc (length (keep r s)) = rw h at e in omega arith))
    (λ h. let n : length (keep q (replace r s [])) ≡ length (keep q s) = replace_count r q i s [] tt (rw h at e) in rw h (by_test (q x) (λ y. rw y (ap suc n)) (λ y. rw y n)))
replace_count r q i (x ∷ s) (y ∷ l) a e =
    by_test (r x)
    (λ h. rw (h, i x h, i y a.0) (ap suc (replace_count r q i s l a.1 (let e' : suc (length l) ≡ suc (length (keep r s)) = rw h at e in omega arith))))
    (λ h. let n : length (keep q (replace r s (y ∷ l))) ≡ length (keep q s) = replace_count r q i s (y ∷ l) a (rw h at e) in rw h (by_test (q x) (λ z. rw z (ap suc n)) (λ z. rw z n)))

-- and the part with k that pass is as long as before
pub up_to_replace_length : (p r : ℕ → Bool) → p 0 ≡ true → Stronger r p → (k : ℕ) (s l : List ℕ) → All p l
    → length (up_to p k (replace r s l)) ≡ length (up_to p k s)
up_to_replace_length p r z i k [] l a = refl
up_to_replace_length p r z i zero (x ∷ s) l a = refl
up_to_replace_length p r z i (suc k) (x ∷ s) l a =
    by_test (r x)
    (λ t. rw (t, all_at p z l a 0, i x t) (ap suc (up_to_replace_length p r z i k s (drop 1 l) (all_drop p l a))))
    (λ f. rw f (ap suc (up_to_replace_length p r z i (left (p x) k) s l a)))

-- the part with k that pass a stronger test: of the outputs, as many as that part of the other list needs
pub up_to_replace : (p r : ℕ → Bool) → Stronger p r → (k : ℕ) (s xs : List ℕ) → k ≤ length (keep p xs)
    → up_to p k (replace r s xs) ≡ replace r (up_to r (length (up_to p k xs)) s) (up_to p k xs)
up_to_replace p r i k [] xs h = refl
up_to_replace p r i zero (x ∷ s) xs h = rw (up_to_zero p xs) refl
up_to_replace p r i (suc k) (x ∷ s) [] h = absurd (omega arith)
up_to_replace p r i (suc k) (x ∷ s) (y ∷ xs) h =
    by_test (r x)
    (λ t. rw t (ap (λ (z : List ℕ). y ∷ z) (up_to_replace p r i (left (p y) k) s xs (left_fits p k y xs h))))
    (λ f. rw (f, weaker_no p r i x f) (ap (λ (z : List ℕ). x ∷ z) (up_to_replace p r i (suc k) s (y ∷ xs) h)))

-- ---- an order of 0..M put in the places of the numbers below M of an order of 0..N
module _ {N M : ℕ} {s l : List ℕ} (os : Order N s) (ol : Order M l) (h : M ≤ N) where
  fits : length l ≡ count_below M s
  fits = ol.size ∙ sym (os.counts M h)

  pub order_keep : keep (below M) (replace (below M) s l) ≡ l
  order_keep = replace_keep (below M) s l (order_all ol) fits

  pub order_replace : Order N (replace (below M) s l)
  order_replace = record { size = replace_length (below M) s l ∙ os.size; counts = c }
    where
      c : (n : ℕ) → n ≤ N → count_below n (replace (below M) s l) ≡ n
      c n k =
          by_below n M
          (λ u. ap length (sym (keep_keep (below n) (below M) (below_below (omega arith)) (replace (below M) s l))) ∙ ap (count_below n) order_keep ∙ ol.counts n (omega arith))
          (λ u. replace_count (below M) (below n) (below_below u) s l (order_all ol) fits ∙ os.counts n k)
