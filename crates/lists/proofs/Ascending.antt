-- Lists that ascend strictly below a bound, and lists by their last entry.
-- Assumes nothing.
use mathlib.Core.Path.{◌≡◌, refl, ap}
use mathlib.Core.List.{List, [], ◌∷◌, ◌++◌}
use Prim.Native.Nat.{ℕ, zero, suc, ◌+◌, ◌-◌, ◌≤◌, ◌<◌}
use native.Mathlib.Omega.{arith}
use native.Mathlib.Decide.{le_ind}
use lib.ListN.{length, get_or, take, get_or-append}
use lib.Seq.{get_or_at, get_or-take, length-take-le}
use Rattle.lists.specs.Lists.{last, Ascending}
use Rattle.lists.proofs.Tests.{by_below}

pub length_snoc : (l : List ℕ) (x : ℕ) → length (l ++ (x ∷ [])) ≡ suc (length l)
length_snoc [] x = refl
length_snoc (y ∷ l) x = ap suc (length_snoc l x)

pub last_snoc : (l : List ℕ) (x : ℕ) → last (l ++ (x ∷ [])) ≡ x
unfolding last
last_snoc l x = get_or_at l x [] 0 (length (l ++ (x ∷ [])) - 1) (omega (arith, length_snoc l x))

pub ascending_nil : (n : ℕ) → Ascending [] n
ascending_nil n = record { rises = λ i j h e. absurd (omega arith); below = λ i e. absurd (omega arith) }

module _ (l : List ℕ) (b n : ℕ) where
  -- with b put at the end
  pub ascending_snoc : Ascending l b → b < n → Ascending (l ++ (b ∷ [])) n
  ascending_snoc a h = record {
    rises = λ i j p e.
        let r : i < length l = omega (arith, length_snoc l b) in
        rw (get_or-append l (b ∷ []) 0 i r)
        (by_below j (length l)
        (λ q. rw (get_or-append l (b ∷ []) 0 j q) (a.rises i j p q))
        (λ q. let z : length l ≡ j = omega (arith, length_snoc l b) in rw (get_or_at l b [] 0 j z) (a.below i r)));
    below = λ i e.
        by_below i (length l)
        (λ q. rw (get_or-append l (b ∷ []) 0 i q) (omega (arith, a.below i q)))
        (λ q. let z : length l ≡ i = omega (arith, length_snoc l b) in rw (get_or_at l b [] 0 i z) h);
  }

  pub ascending_last : Ascending (l ++ (b ∷ [])) n → b < n
  ascending_last a = rw (get_or_at l b [] 0 (length l) refl) at (a.below (length l) (omega (arith, length_snoc l b)))

  pub ascending_init : Ascending (l ++ (b ∷ [])) n → Ascending l b
  ascending_init a = record {
    rises = λ i j h e.
        rw (get_or-append l (b ∷ []) 0 i (omega arith), get_or-append l (b ∷ []) 0 j e) at (a.rises i j h (omega (arith, length_snoc l b)));
    below = λ i e.
        rw (get_or-append l (b ∷ []) 0 i e, get_or_at l b [] 0 (length l) refl) at (a.rises i (length l) e (omega (arith, length_snoc l b)));
  }

module _ (l : List ℕ) (n : ℕ) (a : Ascending l n) where
  -- the entry at index i is i or more
  pub rises_ge : (i : ℕ) → i < length l → i ≤ get_or l i 0
  rises_ge zero h = omega arith
  rises_ge (suc i) h = omega (arith, rises_ge i (omega arith), a.rises i (suc i) (omega arith) h)

  pub rises_gap : (i j : ℕ) → i ≤ j → j < length l → get_or l i 0 + (j - i) ≤ get_or l j 0
  rises_gap i j h e =
      le_ind {n = i} (λ k. k < length l → get_or l i 0 + (k - i) ≤ get_or l k 0)
      (λ _. omega arith)
      (λ k p ih q. omega (arith, ih (omega arith), a.rises k (suc k) (omega arith) q))
      j h e

pub last_take : (k : ℕ) (l : List ℕ) → 0 < k → k ≤ length l → last (take k l) ≡ get_or l (k - 1) 0
unfolding last
last_take k l h e = rw (length-take-le k l e) (get_or-take k l (k - 1) 0 (omega arith))
