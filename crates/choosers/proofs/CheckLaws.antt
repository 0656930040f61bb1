-- The test of a chooser's record against its list: the pass over the samples, and what follows from it.
-- Assumes nothing.
use mathlib.Core.Path.{◌≡◌, refl, sym, ap, ◌∙◌}
use mathlib.Core.Bool.{Bool, true, false, ◌&&◌}
use mathlib.Core.List.{List, [], ◌∷◌, ◌++◌}
use Prim.Native.Nat.{ℕ, zero, suc, ◌≤◌, ◌<◌}
use native.Mathlib.Omega.{arith}
use borrow.Author.Tests.{lt-ltb, le-ltb, le-leb, lt-leb, leb-true, ltb-true}
use lib.Dec.{ltb, leb}
use lib.ListN.{length, get_or, take, drop, get_or-append, take-append-drop}
use lib.Seq.{take-suc, length-take-le, get_or-take, get_or-append_seam}
use Rattle.lists.proofs.Keeping.{both}
use Rattle.lists.specs.Lists.{Ascending}
use Rattle.lists.proofs.Ascending.{length_snoc, ascending_nil, ascending_snoc, ascending_last, ascending_init, rises_ge}
use Rattle.choosers.specs.declared.choose_k.ConsistentChooseKHasher.{ConsistentChooseKHasher}
use Rattle.choosers.specs.ChooserCalls.{samples_of, ascends, fitting}

-- ---- a turn of the pass, at the last of the samples that are left

-- only the first k entries are looked at
ascends_front : (r xs : List ℕ) (k n : ℕ) → k ≤ length r → ascends (r ++ xs) k n ≡ ascends r k n
unfolding ascends
ascends_front r xs zero n h = refl
ascends_front r xs (suc k) n h =
    rw (get_or-append r xs 0 k (omega arith)) (ap (λ (b : Bool). ltb (get_or r k 0) n && b) (ascends_front r xs k (get_or r k 0) (omega arith)))

module _ (l r : List ℕ) (x n : ℕ) (is : l ≡ r ++ (x ∷ [])) where
  ascends_last : ascends l (length l) n ≡ (ltb x n && ascends r (length r) x)
  unfolding ascends
  ascends_last =
      rw (is, length_snoc r x, get_or-append_seam r x [] 0)
      (ap (λ (b : Bool). ltb x n && b) (ascends_front r (x ∷ []) (length r) x (omega arith)))

  pub rise_on : x < n → ascends l (length l) n ≡ ascends r (length r) x
  rise_on h = ascends_last ∙ rw (lt-ltb x n h)

  pub rise_stop : n ≤ x → ascends l (length l) n ≡ false
  rise_stop h = ascends_last ∙ rw (le-ltb x n h)

pub rise_end : (l : List ℕ) (n : ℕ) → length l ≡ 0 → ascends l (length l) n ≡ true
unfolding ascends
rise_end l n e = rw e

-- ---- what it means

pub ascends_means : (l : List ℕ) (k n : ℕ) → k ≤ length l → ascends l k n ≡ true → Ascending (take k l) n
unfolding ascends
ascends_means l zero n h e = ascending_nil n
ascends_means l (suc k) n h e =
    let p = both (ltb (get_or l k 0) n) (ascends l k (get_or l k 0)) e in
    rw (take-suc l k 0 h) (ascending_snoc (take k l) (get_or l k 0) n (ascends_means l k (get_or l k 0) (omega arith) p.1) (ltb-true (get_or l k 0) n p.0))

-- a record that fits its list
pub record Parts (c : ConsistentChooseKHasher) (l : List ℕ) : Type 0 where
  pub within : c.k ≤ length l
  pub rising : Ascending (samples_of c l) c.n
  pub few : c.k ≤ c.n

module _ (c : ConsistentChooseKHasher) (l : List ℕ) where
  pub fits_long : c.k ≤ length l → fitting c l ≡ ascends l c.k c.n
  unfolding fitting
  fits_long h = rw (le-leb c.k (length l) h)

  -- the pass is over the samples alone
  pub fits_rising : c.k ≤ length l → fitting c l ≡ ascends (samples_of c l) (length (samples_of c l)) c.n
  fits_rising h =
      let long : length (take c.k l) ≡ c.k = length-take-le c.k l h in
      fits_long h
      ∙ ap (λ (l : List ℕ). ascends l c.k c.n) (sym (take-append-drop c.k l))
      ∙ ascends_front (take c.k l) (drop c.k l) c.k c.n (omega (arith, long))
      ∙ ap (λ (k : ℕ). ascends (take c.k l) k c.n) (sym long)

  pub fits_short : length l < c.k → fitting c l ≡ false
  unfolding fitting
  fits_short h = rw (lt-leb c.k (length l) h)

  few_of : (k : ℕ) → k ≤ length l → Ascending (take k l) c.n → k ≤ c.n
  few_of zero h a = omega arith
  few_of (suc k) h a =
      let e : length (take (suc k) l) ≡ suc k = length-take-le (suc k) l h in
      omega (arith, rises_ge (take (suc k) l) c.n a k (omega arith), a.below k (omega arith))

  pub fits_parts : fitting c l ≡ true → Parts c l
  unfolding fitting
  fits_parts e =
      let p = both (leb c.k (length l)) (ascends l c.k c.n) e in
      let w : c.k ≤ length l = leb-true c.k (length l) p.0 in
      let a : Ascending (samples_of c l) c.n = ascends_means l c.k c.n w p.1 in
      record { within = w; rising = a; few = few_of c.k w a }

  module _ (p : Parts c l) where
    -- the sample at an index, below n and no less than the index
    pub sample_below : (i : ℕ) → i < c.k → get_or l i 0 < c.n
    sample_below i h = rw (get_or-take c.k l i 0 h) at (p.rising.below i (omega (arith, length-take-le c.k l p.within)))

    pub sample_ge : (i : ℕ) → i < c.k → i ≤ get_or l i 0
    sample_ge i h = rw (get_or-take c.k l i 0 h) at (rises_ge (samples_of c l) c.n p.rising i (omega (arith, length-take-le c.k l p.within)))

    -- they ascend
    pub sample_less : (i j : ℕ) → i < j → j < c.k → get_or l i 0 < get_or l j 0
    sample_less i j h q =
        rw (← get_or-take c.k l i 0 (omega arith), ← get_or-take c.k l j 0 q) (p.rising.rises i j h (omega (arith, length-take-le c.k l p.within)))

-- ---- samples that ascend pass the test

pub ascends_of : (l : List ℕ) (k n : ℕ) → k ≤ length l → Ascending (take k l) n → ascends l k n ≡ true
unfolding ascends
ascends_of l zero n h a = refl
ascends_of l (suc k) n h a =
    let a' : Ascending (take k l ++ (get_or l k 0 ∷ [])) n = rw (take-suc l k 0 h) at a in
    rw (lt-ltb (get_or l k 0) n (ascending_last (take k l) (get_or l k 0) n a'))
    (ascends_of l k (get_or l k 0) (omega arith) (ascending_init (take k l) (get_or l k 0) n a'))

pub fits_of : (c : ConsistentChooseKHasher) (l : List ℕ) → c.k ≤ length l → Ascending (samples_of c l) c.n → fitting c l ≡ true
fits_of c l h a = fits_long c l h ∙ ascends_of l c.k c.n h a
