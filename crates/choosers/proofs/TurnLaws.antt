-- Lowering and growing as loops over a list do them: a turn at index i − 1, and grow on the first k entries of a longer list.
-- Assumes nothing.
use mathlib.Core.Path.{◌≡◌, refl, ap, ◌∙◌}
use mathlib.Core.Logic.{◌≢◌}
use mathlib.Core.List.{List, [], ◌∷◌, ◌++◌, append_assoc}
use Prim.Native.Nat.{ℕ, zero, suc, ◌-◌, ◌≤◌, ◌<◌, max}
use native.Mathlib.Omega.{arith}
use borrow.Author.Tests.{lt-ltb, le-ltb, eq-eqb, ne_eqb}
use lib.Dec.{ltb}
use lib.ListN.{length, get_or, set, take, drop, length-set, take-append-drop, get_or-append}
use lib.Seq.{length-take-le, drop-cons, set-append_left, set_split, set_at}
use Rattle.lists.proofs.Ascending.{last_take}
use Rattle.lists.proofs.Tests.{by_test}
use Rattle.choosers.specs.Choosers.{g, Moved, moved, larger, lower_at, lower, grow}
use Rattle.choosers.specs.InnerChoosers.{grow_in}
use Rattle.choosers.proofs.LoweringLaws.{larger_front}

module _ (s : ℕ) where
  -- ---- lower at an index

  pub turn_stop : (i : ℕ) (l : List ℕ) (m : ℕ) → 0 < i → get_or l (i - 1) 0 < m → lower_at s i l m ≡ moved l i
  unfolding lower_at
  turn_stop zero l m h e = absurd (omega arith)
  turn_stop (suc j) l m h e = let z : suc j - 1 ≡ j = omega arith in rw (lt-ltb (get_or l j 0) m (rw z at e))

  pub turn_on : (i : ℕ) (l : List ℕ) (m : ℕ) → 0 < i → m ≤ get_or l (i - 1) 0
      → lower_at s i l m ≡ lower_at s (i - 1) (set l (i - 1) (larger s l (i - 1) m)) (larger s l (i - 1) m)
  unfolding lower_at
  turn_on zero l m h e = absurd (omega arith)
  turn_on (suc j) l m h e = let z : suc j - 1 ≡ j = omega arith in rw (z, le-ltb (get_or l j 0) m (rw z at e))

  pub turn_end : (i : ℕ) (l : List ℕ) (m : ℕ) → i ≤ 0 → lower_at s i l m ≡ moved l 0
  unfolding lower_at
  turn_end zero l m h = refl
  turn_end (suc i) l m h = absurd (omega arith)

  -- ---- what the sample becomes

  pub larger_first : (i : ℕ) (l : List ℕ) (m : ℕ) → i ≤ 0 → larger s l i m ≡ g s i m
  unfolding larger
  larger_first zero l m h = refl
  larger_first (suc i) l m h = absurd (omega arith)

  pub larger_later : (i : ℕ) (l : List ℕ) (m : ℕ) → 0 < i → larger s l i m ≡ max (get_or l (i - 1) 0) (g s i m)
  unfolding larger
  larger_later zero l m h = absurd (omega arith)
  larger_later (suc j) l m h = let z : suc j - 1 ≡ j = omega arith in rw z

  -- ---- lower touches the entries below its index only

  pub lower_front : (i : ℕ) (p r : List ℕ) (m : ℕ) → i ≤ length p → lower_at s i (p ++ r) m ≡ moved ((lower_at s i p m).samples ++ r) (lower_at s i p m).index
  unfolding lower_at
  lower_front zero p r m h = refl
  lower_front (suc i) p r m h =
      rw (get_or-append p r 0 i (omega arith), larger_front s i p r m (omega arith), set-append_left p r i (larger s p i m) (omega arith))
      (by_test (ltb (get_or p i 0) m)
      (λ q. rw q)
      (λ q. rw q (lower_front i (set p i (larger s p i m)) r (larger s p i m) (omega (arith, length-set p i (larger s p i m))))))

  pub lower_length : (i : ℕ) (l : List ℕ) (m : ℕ) → length (lower_at s i l m).samples ≡ length l
  unfolding lower_at
  lower_length zero l m = refl
  lower_length (suc i) l m =
      by_test (ltb (get_or l i 0) m)
      (λ q. rw q)
      (λ q. rw q (lower_length i (set l i (larger s l i m)) (larger s l i m) ∙ length-set l i (larger s l i m)))

  pub lower_index : (i : ℕ) (l : List ℕ) (m : ℕ) → (lower_at s i l m).index ≤ i
  unfolding lower_at
  lower_index zero l m = omega arith
  lower_index (suc i) l m =
      by_test (ltb (get_or l i 0) m)
      (λ q. rw q (omega arith))
      (λ q. rw q (omega (arith, lower_index i (set l i (larger s l i m)) (larger s l i m))))

  -- the first k entries of a longer list, lowered
  pub lower_take : (k : ℕ) (l : List ℕ) (m : ℕ) → k ≤ length l → lower_at s k l m ≡ moved ((lower s (take k l) m).samples ++ drop k l) (lower s (take k l) m).index
  unfolding lower
  lower_take k l m h =
      let long : length (take k l) ≡ k = length-take-le k l h in
      rw long (rw (take-append-drop k l) at (lower_front k (take k l) (drop k l) m (omega arith)))

  -- ---- grow on the first k entries

  module _ (k n : ℕ) (l : List ℕ) (fits : k < length l) where
    long : length (take k l) ≡ k
    long = length-take-le k l (omega arith)

    lowered_length : (b : ℕ) → length (lower s (take k l) b).samples ≡ k
    unfolding lower
    lowered_length b = lower_length (length (take k l)) (take k l) b ∙ long

    -- the new sample goes to the end
    pub grow_first : k ≡ 0 → moved (set l k (g s k n)) k ≡ grow_in s k l n
    unfolding grow_in grow
    grow_first e =
        rw (long, eq-eqb k 0 e, append_assoc (take k l) (g s k n ∷ []) (drop (suc k) l))
        (ap (λ (z : List ℕ). moved z k) (set_split l k (g s k n) fits))

    pub grow_end : k ≢ 0 → get_or l (k - 1) 0 < g s k n → moved (set l k (g s k n)) k ≡ grow_in s k l n
    unfolding grow_in grow
    grow_end e h =
        rw (long, last_take k l (omega (arith, e)) (omega arith), ne_eqb k 0 e, lt-ltb (get_or l (k - 1) 0) (g s k n) h, append_assoc (take k l) (g s k n ∷ []) (drop (suc k) l))
        (ap (λ (z : List ℕ). moved z k) (set_split l k (g s k n) fits))

    -- or the samples are lowered, and the old last goes to the end
    pub grow_mid : k ≢ 0 → (b : ℕ) → get_or l (k - 1) 0 ≡ b → g s k n ≤ b
        → (m : List ℕ) (p : ℕ) → moved m p ≡ lower_at s k l b → moved (set m k b) p ≡ grow_in s k l n
    unfolding grow_in grow
    grow_mid e b q h m p is =
        let down : Moved = lower s (take k l) b in
        let both : moved m p ≡ moved (down.samples ++ drop k l) down.index = is ∙ lower_take k l b (omega arith) in
        let list : m ≡ down.samples ++ get_or l k 0 ∷ drop (suc k) l
        = ap (λ (z : Moved). z.samples) both ∙ ap (λ (z : List ℕ). down.samples ++ z) (drop-cons l k 0 fits) in
        let index : p ≡ down.index = ap (λ (z : Moved). z.index) both in
        rw (long, last_take k l (omega (arith, e)) (omega arith), q, ne_eqb k 0 e, le-ltb b (g s k n) h, append_assoc down.samples (b ∷ []) (drop (suc k) l), list, index)
        (ap (λ (z : List ℕ). moved z down.index) (set_at down.samples (get_or l k 0) (drop (suc k) l) b k (lowered_length b)))
