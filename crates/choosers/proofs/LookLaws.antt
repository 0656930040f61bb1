-- A lookup: grow from S(k, n) in the first places gives S(k+1, n) and the next number of Q(n), and so the search over Q(n) goes on.
-- Assumes nothing.
use mathlib.Core.Path.{◌≡◌, refl, sym, ap, ◌∙◌}
use mathlib.Core.Bool.{Bool, true, false}
use mathlib.Core.List.{List, ◌++◌}
use mathlib.Core.Option.{none, some}
use Prim.Native.Nat.{ℕ, suc, ◌+◌, ◌-◌, ◌≤◌, ◌<◌, min}
use native.Mathlib.Omega.{arith}
use native.Mathlib.Numerals.{add-one}
use lib.ListN.{length, get_or, take, drop, length-take, get_or-append}
use lib.Seq.{take_at, length-take-le, get_or-take}
use Rattle.std.specs.List.{take-map}
use Rattle.std.proofs.lemmas.List.{take-take, map-append, length-map, take-append-le}
use Rattle.lists.specs.Lists.{find}
use Rattle.lists.proofs.Finding.{find_next, find_hit, find_over}
use Rattle.choosers.specs.Choosers.{S, Q, Moved, moved}
use Rattle.choosers.specs.InnerChoosers.{grow_in}
use Rattle.choosers.specs.InnerHolding.{low, lows, Stands}
use Rattle.choosers.proofs.SampleLaws.{length_S}
use Rattle.choosers.proofs.LoweringLaws.{enters_at, enters_le, grow_gives}
use Rattle.choosers.proofs.EntryLaws.{enters_new}
use Rattle.choosers.proofs.OrderLaws.{length_Q, Q_at}

-- ---- grow from S(k, n) in the first places

-- the list after it and the index that it answers: S(k+1, n), and in it the next number of Q(n)
pub record Grown (s k n : ℕ) (next : List ℕ) (i : ℕ) : Type 0 where
  pub samples : take (k + 1) next ≡ S s (k + 1) n
  pub enters_in : i ≤ k
  pub number : get_or next i 0 ≡ get_or (Q s n) k 0

module _ (s k n : ℕ) (l : List ℕ) (h : k < n) (e : take k l ≡ S s k n) where
  grow_is : grow_in s k l n ≡ moved (S s (suc k) n ++ drop (suc k) l) (enters_at s k n)
  unfolding grow_in
  grow_is = rw (e, grow_gives s k n h)

  number_is : get_or (S s (suc k) n ++ drop (suc k) l) (enters_at s k n) 0 ≡ get_or (Q s n) k 0
  number_is =
      let f : enters_at s k n < length (S s (suc k) n) = omega (arith, length_S s (suc k) n, enters_le s k n) in
      rw (get_or-append (S s (suc k) n) (drop (suc k) l) 0 (enters_at s k n) f, Q_at s n k h) (enters_new s k n h)

  pub grow_next : (next : List ℕ) (i : ℕ) → moved next i ≡ grow_in s k l n → Grown s k n next i
  grow_next next i is =
      let list : next ≡ S s (suc k) n ++ drop (suc k) l = ap (λ (z : Moved). z.samples) (is ∙ grow_is) in
      let index : i ≡ enters_at s k n = ap (λ (z : Moved). z.index) (is ∙ grow_is) in
      record {
        samples = rw (add-one, list) (take_at (S s (suc k) n) (drop (suc k) l) (suc k) (length_S s (suc k) n));
        enters_in = omega (arith, index, enters_le s k n);
        number = rw (list, index) number_is;
      }

-- ---- the first k + 1 places of a scratch

pub one_less : (k : ℕ) (l : List ℕ) → k < length l → length (take (k + 1) l) - 1 ≡ k
one_less k l h = omega (arith, length-take-le (k + 1) l (omega arith))

module _ (s n k : ℕ) (l : List ℕ) (h : k < length l) where
  pub stands_front : Stands s l k n → Stands s (take (k + 1) l) (length (take (k + 1) l) - 1) n
  stands_front (e, kept) =
      let same : take k (lows (take (k + 1) l)) ≡ take k (lows l)
      = ap (take k) (sym (take-map low (k + 1) l)) ∙ take-take k (k + 1) (lows l) (omega arith) in
      rw (one_less k l h)
      (same ∙ e, λ i p. rw (get_or-take (k + 1) l i 0 (omega arith)) (kept i p))

  pub stands_whole : (new : List ℕ) → length new ≡ length (take (k + 1) l) → Stands s new (length new) n → Stands s (new ++ drop (k + 1) l) (k + 1) n
  stands_whole new long (e, kept) =
      let m : length new ≡ k + 1 = long ∙ length-take-le (k + 1) l (omega arith) in
      let front : take (k + 1) (lows (new ++ drop (k + 1) l)) ≡ take (k + 1) (lows new)
      = ap (take (k + 1)) (map-append low new (drop (k + 1) l)) ∙ take-append-le (k + 1) (lows new) (lows (drop (k + 1) l)) (omega (arith, m, length-map new low)) in (
        front ∙ rw m at e,
        λ i p. rw (get_or-append new (drop (k + 1) l) 0 i (omega (arith, m))) (kept i (omega (arith, m))),
      )

-- ---- the search for one that passes a test, over the first m numbers of Q(c)

-- the answer is in what is left after k of them
abbrev pub Ahead : (ℕ → Bool) → ℕ → ℕ → ℕ → ℕ → Type 0
Ahead p s c m k = find p (drop k (take m (Q s c))) ≡ find p (take m (Q s c))

module _ (p : ℕ → Bool) (s c m : ℕ) where
  pub look_first : Ahead p s c m 0
  look_first = refl

  pub look_over : (k : ℕ) → min m c ≤ k → Ahead p s c m k → none ≡ find p (take m (Q s c))
  look_over k h a = sym (find_over p (take m (Q s c)) k (omega (arith, length-take m (Q s c), length_Q s c))) ∙ a

  -- x is the next of them
  module _ (k : ℕ) (h : k < c) (e : k < m) (x : ℕ) (is : x ≡ get_or (Q s c) k 0) where
    within : k < length (take m (Q s c))
    within = omega (arith, length-take m (Q s c), length_Q s c)

    next_is : get_or (take m (Q s c)) k 0 ≡ x
    next_is = get_or-take m (Q s c) k 0 e ∙ sym is

    pub look_next : p x ≡ false → Ahead p s c m k → Ahead p s c m (k + 1)
    look_next f a = sym (find_next p (take m (Q s c)) k within (ap p next_is ∙ f)) ∙ a

    pub look_hit : p x ≡ true → Ahead p s c m k → some x ≡ find p (take m (Q s c))
    look_hit f a = ap some (sym next_is) ∙ sym (find_hit p (take m (Q s c)) k within (ap p next_is ∙ f)) ∙ a
