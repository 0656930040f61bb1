-- All k samples at once: the own values g(0, n), g(1, n), .. in the places, and S(k, n) from the last sample down.
-- Assumes nothing.
use mathlib.Core.Path.{◌≡◌, refl, sym, ap, subst, ◌∙◌}
use mathlib.Core.Logic.{◌⊎◌, inl, inr}
use mathlib.Core.List.{List, ◌∷◌, ◌++◌, append-nil}
use Prim.Native.Nat.{ℕ, zero, suc, ◌+◌, ◌-◌, ◌≤◌, ◌<◌, max}
use native.Mathlib.Omega.{arith}
use native.Mathlib.Numerals.{add-one}
use lib.ListN.{length, get_or, set, drop, replicate, length-set, length-append, length-replicate, get_or-append, get_or-replicate, drop_of_length-le}
use lib.Seq.{get_or-set_same, get_or-set_other, drop-cons, drop-append_seam, drop-set-lt, append_snoc}
use Rattle.lists.proofs.Tests.{by_same}
use Rattle.lists.proofs.Writing.{set_holds}
use Rattle.choosers.specs.Choosers.{g, largest_g, S}
use Rattle.choosers.specs.InnerChoosers.{Owns, OwnOr}
use Rattle.choosers.proofs.SampleLaws.{g_top, g_same, top_lt, top_ge}
use Rattle.choosers.proofs.LoweringLaws.{S_open}

module _ (s : ℕ) where
  -- ---- a turn of the passes over the places

  pub top_none : (n : ℕ) → 0 ≡ largest_g s 0 n
  unfolding largest_g
  top_none n = refl

  pub top_more : (i n high r x : ℕ) → high ≡ largest_g s i n → x ≡ g s i n → r ≡ max high x → r ≡ largest_g s (i + 1) n
  unfolding largest_g
  top_more i n high r x h e q = rw (add-one, q, h, e)

  pub owns_more : (l : List ℕ) (i n x : ℕ) → i < length l → Owns s l i n → x ≡ g s i n → Owns s (set l i x) (i + 1) n
  owns_more l i n x h o e = set_holds (λ j y. y ≡ g s j n) l (i + 1) i x h e (λ j p q. o j (omega (arith, q)))

  pub own_or_set : (l : List ℕ) (k i m x : ℕ) → i < length l → OwnOr s l k m → x ≡ g s i m → OwnOr s (set l i x) k m
  own_or_set l k i m x h o e = set_holds (λ j y. (y ≡ m) ⊎ (y ≡ g s j m)) l k i x h (inr e) (λ j p q. o j p)

  -- ---- from S(i, b) to S(i − 1, its last)

  -- Each place below i holds its own value below the bound b, or b; with S(i, b) before what stands from place i on, the list is
  -- what it is to be.
  pub record Choosing (k n : ℕ) (now : List ℕ) (b i : ℕ) : Type 0 where
    pub few : i ≤ b
    pub small : b ≤ n
    pub owns : OwnOr s now i b
    pub whole : S s k n ≡ S s i b ++ drop i now

  pub choosing_first : (k n : ℕ) (now : List ℕ) → k ≤ n → now ≡ replicate k n → Choosing k n now n k
  choosing_first k n now h e = record {
    few = h;
    small = omega arith;
    owns = λ i p. inl (ap (λ (l : List ℕ). get_or l i 0) e ∙ get_or-replicate k i n 0 p);
    whole = sym (ap (λ (l : List ℕ). S s k n ++ l) (drop_of_length-le now {i = k} (omega (arith, ap length e, length-replicate k n))) ∙ append-nil (S s k n));
  }

  pub choosing_done : (k n : ℕ) (now : List ℕ) (b i : ℕ) → i ≤ 0 → Choosing k n now b i → now ≡ S s k n
  unfolding S
  choosing_done k n now b zero h c = sym c.whole
  choosing_done k n now b (suc i) h c = absurd (omega arith)

  -- a loop has i and i − 1
  pub choosing_at : (k n : ℕ) (now : List ℕ) (b i : ℕ) → 0 < i → Choosing k n now b i → Choosing k n now b (suc (i - 1))
  choosing_at k n now b i h c = let e : i ≡ suc (i - 1) = omega arith in subst (λ (j : ℕ). Choosing k n now b j) e c

  -- the first j + 1 places come to hold their own values, and place j the largest of them
  module _ (k n : ℕ) (now : List ℕ) (b j : ℕ) (c : Choosing k n now b (suc j)) (front : List ℕ) (long : length front ≡ suc j) (own : Owns s front (suc j) b)
      (r : ℕ) (top : r ≡ largest_g s (suc j) b) where
    next : List ℕ
    next = front ++ drop (suc j) now

    j_in : j < length next
    unfolding next
    j_in = omega (arith, length-append front (drop (suc j) now), long)

    high_lt : r < b
    high_lt = omega (arith, top, c.few, top_lt s (suc j) b c.few (omega (arith, c.few)))

    drop_next : drop j (set next j r) ≡ r ∷ drop (suc j) now
    unfolding next
    drop_next =
        drop-cons (set next j r) j 0 (rw (length-set next j r) j_in)
        ∙ rw (get_or-set_same next j r 0 j_in, drop-set-lt (suc j) next j r (omega arith))
        (ap (λ (l : List ℕ). r ∷ l) (ap (λ (m : ℕ). drop m next) (sym long) ∙ drop-append_seam front (drop (suc j) now)))

    own_next : OwnOr s (set next j r) j r
    unfolding next
    own_next i p =
        let e : get_or (set next j r) i 0 ≡ g s i b
        = get_or-set_other next j i r 0 (λ z. omega (arith, z)) ∙ get_or-append front (drop (suc j) now) 0 i (omega (arith, long)) ∙ own i (omega arith) in
        by_same (g s i b) r
        (λ q. inl (e ∙ q))
        (λ q. let l : g s i b ≤ r = rw top (g_top s (suc j) b i (omega arith)) in
        inr (e ∙ sym (g_same s i r b (omega (arith, high_ge)) (omega (arith, high_lt)) (omega (arith, q)))))
      where
        high_ge : j ≤ r
        high_ge = rw top (top_ge s j b)

    pub choosing_next : Choosing k n (set (front ++ drop (suc j) now) j r) r j
    unfolding next
    choosing_next = record {
      few = rw top (top_ge s j b);
      small = omega (arith, high_lt, c.small);
      owns = own_next;
      whole = c.whole ∙ rw (S_open s j b, ← top, append_snoc (S s j r) r (drop (suc j) now), drop_next);
    }
