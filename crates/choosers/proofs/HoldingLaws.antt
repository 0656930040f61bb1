-- Samples in the places of a list, where f is the sample of a place and K what a place keeps of its sequence: it stays so in every
-- turn of lower and grow.
-- Assumes nothing.
use mathlib.Core.Path.{◌≡◌, sym, ap, ◌∙◌}
use mathlib.Core.Logic.{◌≢◌}
use mathlib.Core.List.{List, [], map, ◌++◌, append-nil}
use Prim.Native.Nat.{ℕ, suc, ◌+◌, ◌-◌, ◌≤◌, ◌<◌, max}
use native.Mathlib.Omega.{arith}
use native.Mathlib.Numerals.{add-one}
use lib.ListN.{length, get_or, set, take, drop, length-set, length-append, length-drop, get_or-append, drop_of_length-le}
use lib.Seq.{length-take-le, get_or-set_other, get_or-take}
use Rattle.std.specs.List.{take-map}
use Rattle.std.proofs.lemmas.List.{take-take, map-id, map-append, drop-map, length-map, get_or-map}
use Rattle.lists.proofs.Tests.{by_below, by_same}
use Rattle.lists.proofs.Writing.{map_set, set_holds}
use Rattle.choosers.specs.Choosers.{g, Moved, moved, larger, lower_at, lower, grow}
use Rattle.choosers.specs.InnerChoosers.{grow_in}
use Rattle.choosers.specs.InnerHolding.{Kept, Rises, Under}
use Rattle.choosers.proofs.SampleLaws.{g_lt, g_ge, g_same}
use Rattle.choosers.proofs.TurnLaws.{turn_on, larger_first, larger_later, lower_take, grow_first, grow_end, grow_mid}

module _ (f : ℕ → ℕ) where
  -- ---- samples of places

  pub sample_at : (l : List ℕ) (i : ℕ) → i < length l → get_or (map f l) i 0 ≡ f (get_or l i 0)
  sample_at l i h = get_or-map f l i 0 0 h

  pub samples_set : (l : List ℕ) (i e : ℕ) → map f (set l i e) ≡ set (map f l) i (f e)
  samples_set l i e = map_set f l i e

  -- a sample is not changed by what is written at another place
  sample_other : (l : List ℕ) (i e a : ℕ) → a ≢ i → get_or (map f (set l i e)) a 0 ≡ get_or (map f l) a 0
  sample_other l i e a h = ap (λ (xs : List ℕ). get_or xs a 0) (samples_set l i e) ∙ get_or-set_other (map f l) i a (f e) 0 h

  -- the samples of the first k places
  pub front_at : (k : ℕ) (l : List ℕ) (a : ℕ) → a < k → get_or (map f (take k l)) a 0 ≡ get_or (map f l) a 0
  front_at k l a h = ap (λ (xs : List ℕ). get_or xs a 0) (sym (take-map f k l)) ∙ get_or-take k (map f l) a 0 h

  pub front_rises : (k : ℕ) (l : List ℕ) → k ≤ length l → Rises (map f l) k → Rises (map f (take k l)) (length (take k l))
  front_rises k l h r a b p q =
      let long : length (take k l) ≡ k = length-take-le k l h in
      omega (arith, front_at k l a (omega (arith, long)), front_at k l b (omega (arith, long)), r a b p (omega (arith, long)))

  -- all but the last are below the last
  pub rises_under : (k : ℕ) (l : List ℕ) (m : ℕ) → k ≤ length l → Rises (map f l) k → get_or (map f l) (k - 1) 0 ≡ m → Under (map f (take k l)) (length (take k l)) m
  rises_under k l m h r e a p =
      let long : length (take k l) ≡ k = length-take-le k l h in
      omega (arith, front_at k l a (omega (arith, long)), r a (k - 1) (omega (arith, long)) (omega (arith, long)), e)

module _ (f : ℕ → ℕ) (K : ℕ → ℕ → ℕ → Type 0) (s : ℕ) where
  pub front_kept : (k : ℕ) (l : List ℕ) → k ≤ length l → Kept K s l k → Kept K s (take k l) (length (take k l))
  front_kept k l h kept i p =
      let i_in : i < k = omega (arith, length-take-le k l h) in
      rw (get_or-take k l i 0 i_in) (kept i i_in)

  pub kept_front : (l r : List ℕ) (k : ℕ) → k ≤ length l → Kept K s l k → Kept K s (l ++ r) k
  kept_front l r k h kept i p = rw (get_or-append l r 0 i (omega arith)) (kept i p)

  -- the own value below m is that below the sample + 1, where the sample lies between
  pub own_beside : (i m v b : ℕ) → v ≡ g s i m → v ≤ b → b < m → v ≡ g s i (b + 1)
  own_beside i m v b e p h = e ∙ sym (g_same s i (b + 1) m (omega (arith, g_ge s i m)) (omega arith) (omega arith))

  -- ---- a turn of lower: at index i − 1 the sample becomes b, the larger of the one before it and the sequence's value v

  module _ (l : List ℕ) (i m v b : ℕ) (pos : 0 < i) (le : i ≤ m) (own : v ≡ g s (i - 1) m)
      (first : i - 1 ≤ 0 → b ≡ v) (later : 0 < i - 1 → b ≡ max (get_or (map f l) (i - 1 - 1) 0) v) where
    turn_larger : b ≡ larger s (map f l) (i - 1) m
    turn_larger =
        by_below 0 (i - 1)
        (λ p. later p ∙ rw own (sym (larger_later s (i - 1) (map f l) m p)))
        (λ p. first p ∙ own ∙ sym (larger_first s (i - 1) (map f l) m p))

    pub turn_ge : v ≤ b
    turn_ge = by_below 0 (i - 1) (λ p. omega (arith, later p)) (λ p. omega (arith, first p))

    pub turn_less : Under (map f l) i m → b < m
    turn_less u =
        let h : v < m = omega (arith, g_lt s (i - 1) m (omega arith)) in
        by_below 0 (i - 1) (λ p. omega (arith, later p, u (i - 1 - 1) (omega arith))) (λ p. omega (arith, first p))

    pub turn_own : Under (map f l) i m → v ≡ g s (i - 1) (b + 1)
    turn_own u = own_beside (i - 1) m v b own turn_ge (turn_less u)

    -- what stands after it: the place e is written
    pub turn_leaves : (k e : ℕ) → i ≤ k → k ≤ length l → m ≤ get_or (map f l) (i - 1) 0 → f e ≡ b → K s (i - 1) e
        → Kept K s l k → Rises (map f l) i → Under (map f l) i m
        → (i - 1 ≤ b) × (b < m) × (lower_at s i (map f l) m ≡ lower_at s (i - 1) (map f (set l (i - 1) e)) b)
        × Kept K s (set l (i - 1) e) k × Rises (map f (set l (i - 1) e)) (i - 1) × Under (map f (set l (i - 1) e)) (i - 1) b
    turn_leaves k e below fits stays is keeps kept rises under =
        let less : b < m = turn_less under in (
          omega (arith, turn_ge, g_ge s (i - 1) m),
          less,
          turn_on s i (map f l) m pos stays ∙ rw (samples_set f l (i - 1) e, is, ← turn_larger),
          set_holds (K s) l k (i - 1) e (omega arith) keeps (λ j p _. kept j p),
          λ a c h p. rw (sample_other f l (i - 1) e a (λ q. omega (arith, q)), sample_other f l (i - 1) e c (λ q. omega (arith, q))) (rises a c h (omega arith)),
          λ a p. rw (sample_other f l (i - 1) e a (λ q. omega (arith, q))) (omega (arith, rises a (i - 1 - 1) (omega arith) (omega arith), later (omega arith))),
        )

  -- ---- grow: the value v of sequence k below n, the place e is written at k

  module _ (k n : ℕ) (l : List ℕ) (e : ℕ) (long : length l ≡ suc k) (keeps : K s k e) where
    fits : k < length (map f l)
    fits = omega (arith, length-map l f, long)

    kept_more : (now : List ℕ) → length now ≡ suc k → Kept K s now k → Kept K s (set now k e) (length (set now k e))
    kept_more now h kept j p =
        set_holds (K s) now (suc k) k e (omega arith) keeps (λ i q d. kept i (omega (arith, d))) j (omega (arith, h, length-set now k e))

    -- at the end, where it is the first sample or is above the last
    pub put_end : (0 < k → get_or (map f l) (k - 1) 0 < g s k n) → f e ≡ g s k n → Kept K s l k
        → (moved (map f (set l k e)) k ≡ grow_in s k (map f l) n) × Kept K s (set l k e) (length (set l k e))
    put_end h is kept = (
      ap (λ (xs : List ℕ). moved xs k) (samples_set f l k e ∙ ap (set (map f l) k) is)
          ∙ by_same k 0
          (λ z. grow_first s k n (map f l) fits z)
          (λ z. grow_end s k n (map f l) fits z (h (omega (arith, z)))),
      kept_more l long kept,
    )

    -- else beside the old last, once the samples before are lowered
    pub put_mid : k ≢ 0 → (b : ℕ) → get_or (map f l) (k - 1) 0 ≡ b → g s k n ≤ b → f e ≡ b
        → (now : List ℕ) (i : ℕ) → length now ≡ k → moved (map f now) i ≡ lower_at s (length (take k l)) (map f (take k l)) b → Kept K s now k
        → (moved (map f (set (now ++ drop k l) k e)) i ≡ grow_in s k (map f l) n) × Kept K s (set (now ++ drop k l) k e) (length (set (now ++ drop k l) k e))
    unfolding lower
    put_mid z b q h is now i same lowered kept =
        let all : List ℕ = now ++ drop k l in
        let samples : map f all ≡ map f now ++ drop k (map f l) = map-append f now (drop k l) ∙ ap (λ (xs : List ℕ). map f now ++ xs) (sym (drop-map f k l)) in
        let front : map f (take k l) ≡ take k (map f l) = sym (take-map f k l) in
        let count : length (take k l) ≡ length (take k (map f l)) = omega (arith, length-take-le k l (omega (arith, long)), length-take-le k (map f l) (omega (arith, fits))) in
        let low : moved (map f now) i ≡ lower s (take k (map f l)) b
        = lowered ∙ ap (λ (m : ℕ). lower_at s m (map f (take k l)) b) count ∙ ap (λ (xs : List ℕ). lower_at s (length (take k (map f l))) xs b) front in
        let whole : moved (map f all) i ≡ lower_at s k (map f l) b
        = ap (λ (xs : List ℕ). moved xs i) samples
        ∙ ap (λ (m : Moved). moved (m.samples ++ drop k (map f l)) m.index) low
        ∙ sym (lower_take s k (map f l) b (omega (arith, fits))) in (
          ap (λ (xs : List ℕ). moved xs i) (samples_set f all k e ∙ ap (set (map f all) k) is) ∙ grow_mid s k n (map f l) fits z b q h (map f all) i whole,
          kept_more all (omega (arith, length-append now (drop k l), length-drop k l, same, long)) (kept_front now (drop k l) k (omega arith) kept),
        )

-- ---- samples alone: the first places of a list that is lent, and the list after it

abbrev pub alone : ℕ → ℕ
alone e = e

module _ (s k : ℕ) (l : List ℕ) where
  alone_at : (j a : ℕ) → a < j → get_or (map alone (take j l)) a 0 ≡ get_or l a 0
  alone_at j a h = front_at alone j l a h ∙ ap (λ (xs : List ℕ). get_or xs a 0) (map-id l)

  pub alone_rises : (j : ℕ) → k ≤ j → ((a b : ℕ) → a < b → b < k → get_or l a 0 < get_or l b 0) → Rises (map alone (take j l)) k
  alone_rises j h r a b p q = rw (alone_at j a (omega arith), alone_at j b (omega arith)) (r a b p q)

  pub alone_under : (j m : ℕ) → k ≤ j + 1 → ((a : ℕ) → a + 1 < k → get_or l a 0 < m) → Under (map alone (take j l)) k m
  alone_under j m h r a p = rw (alone_at j a (omega arith)) (r a p)

  pub lower_whole : k ≤ length l → (m : ℕ) (new : List ℕ) (i : ℕ) → moved (map alone new) i ≡ lower_at s (length (take k l)) (map alone (take k l)) m → moved (new ++ drop k l) i ≡ lower_at s k l m
  unfolding lower
  lower_whole h m new i e =
      let f : moved new i ≡ lower s (take k l) m
      = ap (λ (xs : List ℕ). moved xs i) (sym (map-id new)) ∙ e ∙ ap (λ (xs : List ℕ). lower_at s (length (take k l)) xs m) (map-id (take k l)) in
      ap (λ (z : Moved). moved (z.samples ++ drop k l) z.index) f ∙ sym (lower_take s k l m h)

  pub grow_whole : k < length l → (n : ℕ) (new : List ℕ) (i : ℕ) → moved (map alone new) i ≡ grow_in s (length (take (k + 1) l) - 1) (map alone (take (k + 1) l)) n → moved (new ++ drop (k + 1) l) i ≡ grow_in s k l n
  unfolding grow_in
  grow_whole h n new i e =
      let long : length (take (k + 1) l) ≡ k + 1 = length-take-le (k + 1) l (omega arith) in
      let less : length (take (k + 1) l) - 1 ≡ k = omega (arith, long) in
      let none : drop (suc k) (take (k + 1) l) ≡ [] = drop_of_length-le (take (k + 1) l) {i = suc k} (omega (arith, long)) in
      let front : take k (take (k + 1) l) ≡ take k l = take-take k (k + 1) l (omega arith) in
      let m : Moved = grow s (take k l) n in
      let f : moved new i ≡ moved (m.samples ++ []) m.index
      = ap (λ (xs : List ℕ). moved xs i) (sym (map-id new))
      ∙ e
      ∙ ap (λ (xs : List ℕ). grow_in s (length (take (k + 1) l) - 1) xs n) (map-id (take (k + 1) l))
      ∙ ap (λ (j : ℕ). grow_in s j (take (k + 1) l) n) less
      ∙ rw (none, front) in
      let g : moved new i ≡ moved m.samples m.index = f ∙ ap (λ (xs : List ℕ). moved xs m.index) (append-nil m.samples) in
      ap (λ (z : Moved). moved (z.samples ++ drop (k + 1) l) z.index) g ∙ ap (λ (j : ℕ). moved (m.samples ++ drop j l) m.index) (add-one k)
