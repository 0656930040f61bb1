-- Lists that are written place by place. From the back: at p it is the old list before p and the new one from p on.
-- Assumes nothing.
use mathlib.Core.Path.{◌≡◌, refl, sym, ap, ◌∙◌}
use mathlib.Core.Logic.{◌≢◌}
use mathlib.Core.List.{List, [], ◌∷◌, ◌++◌, map}
use Prim.Native.Nat.{ℕ, zero, suc, ◌+◌, ◌<◌, ◌≤◌}
use native.Mathlib.Numerals.{add-one}
use native.Mathlib.Omega.{arith}
use lib.ListN.{length, take, drop, get_or, set, length-append, length-take, length-drop, get_or-append}
use lib.Seq.{take_at, take-suc, drop-cons, set_at, append_snoc, length-take-le, get_or-take, get_or-set_same, get_or-set_other}
use Rattle.lists.specs.Lists.{written}
use Rattle.lists.proofs.Tests.{by_same}
use Rattle.lists.proofs.Ascending.{length_snoc}

-- the list that stands once the places from p on are written
abbrev pub part : List ℕ → List ℕ → ℕ → List ℕ
part old new p = take p old ++ drop p new

module _ (old new : List ℕ) (same : length new ≡ length old) where
  -- the place p is written
  pub part_set : (p : ℕ) → p < length old → set (part old new (p + 1)) p (get_or new p 0) ≡ part old new p
  part_set p h =
      let h' : p < length new = omega arith in
      let l : length (take p old) ≡ p = length-take-le p old (omega arith) in
      rw (add-one, take-suc old p 0 h, append_snoc, set_at (take p old) (get_or old p 0) (drop (suc p) new) (get_or new p 0) p l, ← drop-cons new p 0 h')

  pub length_part : (p : ℕ) → p ≤ length old → length (part old new p) ≡ length old
  length_part p h = simp (length-append, length-take, length-drop) (omega arith)

  -- before p the old list stands
  pub part_old : (p i : ℕ) → i < p → p ≤ length old → get_or (part old new p) i 0 ≡ get_or old i 0
  part_old p i h k =
      let l : i < length (take p old) = omega (arith, length-take-le p old k) in
      get_or-append (take p old) (drop p new) 0 i l ∙ get_or-take p old i 0 h

-- ---- places written one after the other

-- xs written from place i on
abbrev pub sets : List ℕ → ℕ → List ℕ → List ℕ
sets ws i [] = ws
sets ws i (x ∷ xs) = sets (set ws i x) (suc i) xs

sets_behind : (xs ys ws : List ℕ) → length xs ≤ length ws → sets (ys ++ ws) (length ys) xs ≡ ys ++ (xs ++ drop (length xs) ws)
sets_behind [] ys ws h = refl
sets_behind (x ∷ xs) ys [] h = absurd (omega arith)
sets_behind (x ∷ xs) ys (w ∷ ws) h =
    let e : suc (length ys) ≡ length (ys ++ (x ∷ [])) = sym (length-append ys (x ∷ []) ∙ omega arith) in
    let front : set (ys ++ w ∷ ws) (length ys) x ≡ (ys ++ (x ∷ [])) ++ ws = set_at ys w ws x (length ys) refl ∙ sym (append_snoc ys x ws) in
    (λ i. sets (front i) (e i) xs)
    ∙ sets_behind xs (ys ++ (x ∷ [])) ws (omega arith)
    ∙ append_snoc ys x (xs ++ drop (length xs) ws)

pub sets_written : (xs ws : List ℕ) → length xs ≤ length ws → sets ws 0 xs ≡ written xs ws
unfolding written
sets_written xs ws h = sets_behind xs [] ws h

-- what was written stands there
pub written_take : (k : ℕ) (xs ws : List ℕ) → length xs ≡ k → take k (written xs ws) ≡ xs
unfolding written
written_take k xs ws e = take_at xs (drop (length xs) ws) k e

pub written_at : (i : ℕ) (xs ws : List ℕ) → i < length xs → get_or (written xs ws) i 0 ≡ get_or xs i 0
unfolding written
written_at i xs ws h = get_or-append xs (drop (length xs) ws) 0 i h

-- one more place is written
pub written_more : (xs old : List ℕ) (p x : ℕ) → p ≡ length xs → p < length old → set (written xs old) p x ≡ written (xs ++ (x ∷ [])) old
unfolding written
written_more xs old p x e h =
    rw (
      ← e,
      drop-cons old p 0 h,
      set_at xs (get_or old p 0) (drop (suc p) old) x p (sym e),
      length_snoc xs x,
      ← e,
      append_snoc xs x (drop (suc p) old),
    )

-- ---- one place written

-- the values of the entries
pub map_set : (f : ℕ → ℕ) (l : List ℕ) (i a : ℕ) → map f (set l i a) ≡ set (map f l) i (f a)
map_set f [] i a = refl
map_set f (x ∷ l) zero a = refl
map_set f (x ∷ l) (suc i) a = ap (λ (r : List ℕ). f x ∷ r) (map_set f l i a)

-- what holds of the other entries and of the new one holds of all
pub set_holds : (P : ℕ → ℕ → Type 0) (l : List ℕ) (k i a : ℕ) → i < length l → P i a
    → ((j : ℕ) → j < k → j ≢ i → P j (get_or l j 0)) → (j : ℕ) → j < k → P j (get_or (set l i a) j 0)
set_holds P l k i a f new old j h =
    by_same j i
    (λ q. rw (q, get_or-set_same l i a 0 f) new)
    (λ q. rw (get_or-set_other l i j a 0 q) (old j h q))

pub length_written : (xs ws : List ℕ) → length xs ≤ length ws → length (written xs ws) ≡ length ws
unfolding written
length_written xs ws h = simp (length-append, length-drop) (omega arith)
