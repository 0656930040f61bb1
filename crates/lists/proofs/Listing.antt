-- f 0, f 1, .., f (k − 1); and a list by its places.
-- Assumes nothing.
use mathlib.Core.Path.{◌≡◌, refl, ap, ◌∙◌}
use mathlib.Core.List.{List, [], ◌∷◌, ◌++◌, map}
use Prim.Native.Nat.{ℕ, zero, suc, ◌+◌, ◌≤◌, ◌<◌}
use native.Mathlib.Omega.{arith}
use native.Mathlib.Nat.{add-zero, zero-add}
use lib.ListN.{length, get_or}
use Rattle.lists.specs.Lists.{from, zero_to}
use Rattle.lists.proofs.Ranges.{zero_to_suc}

module _ (f : ℕ → ℕ) where
  map_snoc : (xs : List ℕ) (x : ℕ) → map f (xs ++ (x ∷ [])) ≡ map f xs ++ (f x ∷ [])
  map_snoc [] x = refl
  map_snoc (y ∷ xs) x = ap (λ (r : List ℕ). f y ∷ r) (map_snoc xs x)

  pub listing_snoc : (k : ℕ) → map f (zero_to (suc k)) ≡ map f (zero_to k) ++ (f k ∷ [])
  listing_snoc k = ap (map f) (zero_to_suc k) ∙ map_snoc (zero_to k) k

  from_at : (a c t : ℕ) → t < c → get_or (map f (from a c)) t 0 ≡ f (a + t)
  from_at a zero t h = absurd (omega arith)
  from_at a (suc c) zero h = rw (add-zero a)
  from_at a (suc c) (suc t) h = let e : suc a + t ≡ a + suc t = omega arith in rw e at (from_at (suc a) c t (omega arith))

  pub listing_at : (k t : ℕ) → t < k → get_or (map f (zero_to k)) t 0 ≡ f t
  listing_at k t h = rw (zero-add t) at (from_at 0 k t h)

from_agree : (f h : ℕ → ℕ) (a c : ℕ) → ((t : ℕ) → a ≤ t → t < a + c → f t ≡ h t) → map f (from a c) ≡ map h (from a c)
from_agree f h a zero e = refl
from_agree f h a (suc c) e = rw (e a (omega arith) (omega arith), from_agree f h (suc a) c (λ t p q. e t (omega arith) (omega arith)))

pub listing_agree : (f h : ℕ → ℕ) (k : ℕ) → ((t : ℕ) → t < k → f t ≡ h t) → map f (zero_to k) ≡ map h (zero_to k)
listing_agree f h k e = from_agree f h 0 k (λ t p q. e t (omega arith))

-- ---- a list by its places

map_from_suc : {A : Type 0} (f : ℕ → A) (a c : ℕ) → map f (from (suc a) c) ≡ map (λ (t : ℕ). f (suc t)) (from a c)
map_from_suc f a zero = refl
map_from_suc {A} f a (suc c) = ap (λ (r : List A). f (suc a) ∷ r) (map_from_suc f (suc a) c)

pub map_places : {A : Type 0} (f : ℕ → A) (xs : List ℕ) → map (λ (t : ℕ). f (get_or xs t 0)) (zero_to (length xs)) ≡ map f xs
map_places f [] = refl
map_places {A} f (x ∷ xs) = ap (λ (r : List A). f x ∷ r) (map_from_suc (λ (t : ℕ). f (get_or (x ∷ xs) t 0)) 0 (length xs) ∙ map_places f xs)
