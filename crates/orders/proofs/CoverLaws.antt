-- The fill in place, from the back: of the places below e, those whose output has top bits 00 take the old numbers in order,
-- the others their output. At p it is the old list before p and the new one from p on.
-- Assumes nothing.
use mathlib.Core.Path.{◌≡◌, refl, ap, sym, ◌∙◌}
use mathlib.Core.Bool.{cond}
use mathlib.Core.List.{List, [], ◌∷◌, ◌++◌, append-nil}
use Prim.Native.Nat.{ℕ, zero, suc, ◌+◌, ◌-◌, ◌^◌, ◌<◌, ◌≤◌}
use native.Mathlib.Numerals.{add-one}
use native.Mathlib.Nat.{add-zero, zero-add}
use native.Mathlib.Omega.{arith}
use lib.Dec.{ltb}
use lib.ListN.{length, take, drop, get_or, set, length-append, length-drop, get_or-append, take-append-drop, drop_of_length-le}
use lib.Seq.{drop_at, length-take-le, take-take}
use borrow.Author.Tests.{lt-ltb, le-ltb}
use Rattle.lists.specs.Lists.{below, count_below, replace}
use Rattle.lists.proofs.Tests.{below_yes, below_no, by_below}
use Rattle.lists.proofs.Permutations.{from_length}
use Rattle.lists.proofs.Prefixes.{keep_snoc_yes, keep_snoc_no}
use Rattle.lists.proofs.Replacing.{replace_length, replace_at, replace_same}
use Rattle.lists.proofs.Writing.{part, part_set, part_old}
use Rattle.layers.specs.Layer.{layer}
use Rattle.orders.specs.InnerPasses.{outs, rank_of, laid_of}
use Rattle.orders.proofs.ScanLaws.{outs_at}

-- ---- the outputs of the first inputs

pub outs_snoc : (key i x c : ℕ) → outs key i x (suc c) ≡ outs key i x c ++ (layer i key (x + c) ∷ [])
outs_snoc key i x zero = rw (add-zero x)
outs_snoc key i x (suc c) =
    let e : suc x + c ≡ x + suc c = omega arith in
    ap (λ (l : List ℕ). layer i key x ∷ l) (outs_snoc key i (suc x) c ∙ ap (λ (y : ℕ). outs key i (suc x) c ++ (layer i key y ∷ [])) e)

pub take_outs : (key i x c p : ℕ) → p ≤ c → take p (outs key i x c) ≡ outs key i x p
take_outs key i x c zero h = refl
take_outs key i x zero (suc p) h = absurd (omega arith)
take_outs key i x (suc c) (suc p) h = ap (λ (l : List ℕ). layer i key x ∷ l) (take_outs key i (suc x) c p (omega arith))

pub length_outs : (key i x c : ℕ) → length (outs key i x c) ≡ c
length_outs key i x c = from_length (layer i key) x c

module _ (key i : ℕ) where
  snoc0 : (p : ℕ) → outs key i 0 (p + 1) ≡ outs key i 0 p ++ (layer i key p ∷ [])
  snoc0 p = rw (add-one p) (outs_snoc key i 0 p ∙ ap (λ (y : ℕ). outs key i 0 p ++ (layer i key y ∷ [])) (zero-add p))

  pub rank_yes : (p : ℕ) → layer i key p < 4 ^ i → rank_of key i (p + 1) ≡ rank_of key i p + 1
  unfolding rank_of
  rank_yes p h = ap (count_below (4 ^ i)) (snoc0 p) ∙ keep_snoc_yes (below (4 ^ i)) (outs key i 0 p) (layer i key p) (below_yes _ _ h) ∙ sym (add-one _)

  pub rank_no : (p : ℕ) → 4 ^ i ≤ layer i key p → rank_of key i (p + 1) ≡ rank_of key i p
  unfolding rank_of
  rank_no p h = ap (count_below (4 ^ i)) (snoc0 p) ∙ keep_snoc_no (below (4 ^ i)) (outs key i 0 p) (layer i key p) (below_no _ _ h)

  pub rank_le : (p : ℕ) → rank_of key i p ≤ p
  unfolding rank_of
  rank_le zero = omega arith
  rank_le (suc p) =
      let r : rank_of key i (p + 1) ≤ p + 1 =
      by_below (layer i key p) (4 ^ i) (λ l. omega (arith, rank_yes p l, rank_le p)) (λ l. omega (arith, rank_no p l, rank_le p)) in
      rw add-one at r

  module _ (old : List ℕ) (e : ℕ) (fits : e ≤ length old) where
    laid_front : length (replace (below (4 ^ i)) (outs key i 0 e) old) ≡ e
    laid_front = replace_length (below (4 ^ i)) (outs key i 0 e) old ∙ length_outs key i 0 e

    pub length_laid : length (laid_of key i e old) ≡ length old
    unfolding laid_of
    length_laid = simp (length-append, length-drop, laid_front) (omega arith)

    pub drop_laid : drop e (laid_of key i e old) ≡ drop e old
    unfolding laid_of
    drop_laid = drop_at (replace (below (4 ^ i)) (outs key i 0 e) old) (drop e old) e laid_front

    laid_at : (p : ℕ) → p < e → get_or (laid_of key i e old) p 0 ≡ cond (ltb (layer i key p) (4 ^ i)) (get_or old (rank_of key i p) 0) (layer i key p)
    unfolding laid_of rank_of below
    laid_at p h =
        let l : p < length (replace (below (4 ^ i)) (outs key i 0 e) old) = omega (arith, laid_front) in
        let s : get_or (outs key i 0 e) p 0 ≡ layer i key p = outs_at key i 0 e p h ∙ ap (layer i key) (zero-add p) in
        get_or-append (replace (below (4 ^ i)) (outs key i 0 e) old) (drop e old) 0 p l
        ∙ replace_at (below (4 ^ i)) (outs key i 0 e) old p (omega (arith, length_outs key i 0 e))
        ∙ rw (s, take_outs key i 0 e p (omega arith))

    pub laid_yes : (p : ℕ) → p < e → layer i key p < 4 ^ i → get_or (laid_of key i e old) p 0 ≡ get_or old (rank_of key i p) 0
    laid_yes p h y = laid_at p h ∙ rw (lt-ltb _ _ y)

    pub laid_no : (p : ℕ) → p < e → 4 ^ i ≤ layer i key p → get_or (laid_of key i e old) p 0 ≡ layer i key p
    laid_no p h y = laid_at p h ∙ rw (le-ltb _ _ y)

-- ---- a turn: the places from p on are written, t old entries are left, and the place p - 1 is next
module _ (key i : ℕ) (old : List ℕ) (e : ℕ) (fits : e ≤ length old) (p t : ℕ) (list : List ℕ) (pos : 0 < p) (le : p ≤ e) (ranked : t ≡ rank_of key i p) (is : list ≡ part old (laid_of key i e old) p) where
  back : p - 1 + 1 ≡ p
  back = omega arith

  pub yes_rank : layer i key (p - 1) < 4 ^ i → t ≡ rank_of key i (p - 1) + 1
  yes_rank y = ranked ∙ ap (rank_of key i) (sym back) ∙ rank_yes key i (p - 1) y

  pub no_rank : 4 ^ i ≤ layer i key (p - 1) → t ≡ rank_of key i (p - 1)
  no_rank y = ranked ∙ ap (rank_of key i) (sym back) ∙ rank_no key i (p - 1) y

  write : (v : ℕ) → v ≡ get_or (laid_of key i e old) (p - 1) 0 → set list (p - 1) v ≡ part old (laid_of key i e old) (p - 1)
  write v h =
      let s = part_set old (laid_of key i e old) (length_laid key i old e fits) (p - 1) (omega arith) in
      rw (is, h) (rw back at s)

  pub yes_list : layer i key (p - 1) < 4 ^ i → set list (p - 1) (get_or list (t - 1) 0) ≡ part old (laid_of key i e old) (p - 1)
  yes_list y =
      let r : t - 1 ≡ rank_of key i (p - 1) = omega (arith, yes_rank y) in
      let low : t - 1 < p = omega (arith, yes_rank y, rank_le key i (p - 1)) in
      write (get_or list (t - 1) 0)
      (ap (λ (l : List ℕ). get_or l (t - 1) 0) is ∙ part_old old (laid_of key i e old) (length_laid key i old e fits) p (t - 1) low (omega arith)
      ∙ ap (λ (j : ℕ). get_or old j 0) r ∙ sym (laid_yes key i old e fits (p - 1) (omega arith) y))

  pub no_list : 4 ^ i ≤ layer i key (p - 1) → set list (p - 1) (layer i key (p - 1)) ≡ part old (laid_of key i e old) (p - 1)
  no_list y = write (layer i key (p - 1)) (sym (laid_no key i old e fits (p - 1) (omega arith) y))

-- the loop's start and end
pub cover_start : (key i : ℕ) (old : List ℕ) (e : ℕ) → e ≤ length old → old ≡ part old (laid_of key i e old) e
cover_start key i old e h = sym (rw (drop_laid key i old e h) (take-append-drop e old))

pub part_zero : (old new : List ℕ) (p : ℕ) → p ≤ 0 → part old new p ≡ new
part_zero old new p h = let z : p ≡ 0 = omega arith in rw z

-- laid over the first e alone, it is laid over the list
pub laid_over : (key i e : ℕ) (l : List ℕ) → e ≤ length l → laid_of key i (length (take e l)) (take e l) ++ drop e l ≡ laid_of key i e l
unfolding laid_of rank_of
laid_over key i e l h =
    let n : length (take e l) ≡ e = length-take-le e l h in
    let none : drop e (take e l) ≡ [] = drop_of_length-le (take e l) (omega (arith, n)) in
    let same : replace (below (4 ^ i)) (outs key i 0 e) (take e l) ≡ replace (below (4 ^ i)) (outs key i 0 e) l =
    replace_same (below (4 ^ i)) e (outs key i 0 e) (take e l) l (rank_le key i e) (take-take e e l (omega arith)) in
    rw (n, none, append-nil, same)
