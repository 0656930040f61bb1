-- The largest and the smallest entry of a list: one set of laws for both, over an order and what chooses by it.
-- Assumes nothing.
use mathlib.Core.Path.{◌≡◌, refl, ap}
use mathlib.Core.Bool.{Bool}
use mathlib.Core.Logic.{◌⊎◌, inl, inr, ⊎_elim}
use mathlib.Core.List.{List, [], ◌∷◌, ◌++◌, append-nil}
use mathlib.Core.Option.{Option, none, some}
use Prim.Native.Nat.{ℕ, ◌≤◌, ◌<◌, max, min}
use native.Mathlib.Omega.{arith}
use Rattle.lists.specs.Lists.{keep, occurrences, join, pick}
use Rattle.lists.proofs.Tests.{by_below}
use Rattle.lists.proofs.Members.{occurrences_head, occurrences_tail, occurrences_cons, occurrences_append, keep_within}

-- op chooses one of two by the order R, in which R x y says that y is as good as x
pub record Chooses (op : ℕ → ℕ → ℕ) (R : ℕ → ℕ → Type 0) : Type 0 where
  pub reflexive : (x : ℕ) → R x x
  pub transitive : (x y z : ℕ) → R x y → R y z → R x z
  pub antisymmetric : (x y : ℕ) → R x y → R y x → x ≡ y
  pub chosen : (x y : ℕ) → ((op x y ≡ x) × R y x) ⊎ ((op x y ≡ y) × R x y)

abbrev pub AtMost : ℕ → ℕ → Type 0
AtMost x y = x ≤ y

abbrev pub AtLeast : ℕ → ℕ → Type 0
AtLeast x y = y ≤ x

pub by_max : Chooses max AtMost
by_max = record {
  reflexive = λ x. omega arith;
  transitive = λ x y z h k. omega arith;
  antisymmetric = λ x y h k. omega arith;
  chosen = λ x y. by_below x y (λ h. inr (omega arith, omega arith)) (λ h. inl (omega arith, h));
}

pub by_min : Chooses min AtLeast
by_min = record {
  reflexive = λ x. omega arith;
  transitive = λ x y z h k. omega arith;
  antisymmetric = λ x y h k. omega arith;
  chosen = λ x y. by_below x y (λ h. inl (omega arith, omega arith)) (λ h. inr (omega arith, h));
}

-- y stands in the list, and is as good as every entry
pub record Extreme (R : ℕ → ℕ → Type 0) (xs : List ℕ) (y : ℕ) : Type 0 where
  pub there : 0 < occurrences y xs
  pub best : (z : ℕ) → 0 < occurrences z xs → R z y

abbrev pub or_else : Option ℕ → Option ℕ → Option ℕ
or_else none b = b
or_else (some x) b = some x

module _ {op : ℕ → ℕ → ℕ} {R : ℕ → ℕ → Type 0} (C : Chooses op R) where
  extreme_one : (x : ℕ) → Extreme R (x ∷ []) x
  extreme_one x = record {
    there = occurrences_head x [];
    best = λ z h. occurrences_cons z x [] h (λ e. rw e (C.reflexive x)) (λ p. absurd (omega arith));
  }

  extreme_cons : (x y : ℕ) (xs : List ℕ) → Extreme R xs y → Extreme R (x ∷ xs) (op x y)
  extreme_cons x y xs e = ⊎_elim
      (λ (c : (op x y ≡ x) × R y x). rw c.0 (record {
        there = occurrences_head x xs;
        best = λ z h. occurrences_cons z x xs h (λ q. rw q (C.reflexive x)) (λ p. C.transitive z y x (e.best z p) c.1);
      }))
      (λ (c : (op x y ≡ y) × R x y). rw c.0 (record {
        there = occurrences_tail y x xs e.there;
        best = λ z h. occurrences_cons z x xs h (λ q. rw q c.1) (λ p. e.best z p);
      }))
      (C.chosen x y)

  pub extreme_of : (x : ℕ) (xs : List ℕ) → Extreme R (x ∷ xs) (join op x (pick op xs))
  extreme_of x [] = extreme_one x
  extreme_of x (y ∷ xs) = extreme_cons x (join op y (pick op xs)) (y ∷ xs) (extreme_of y xs)

  pub pick_extreme : (xs : List ℕ) (y : ℕ) → pick op xs ≡ some y → Extreme R xs y
  pick_extreme [] y e = let z : ◌≡◌ {A = ℕ} 0 1 = cc in absurd (omega arith)
  pick_extreme (x ∷ xs) y e = let q : join op x (pick op xs) ≡ y = cc in rw q at (extreme_of x xs)

  -- what is picked of the entries that pass a test stands in the list
  pub picked_within : (p : ℕ → Bool) (xs : List ℕ) (y : ℕ) → pick op (keep p xs) ≡ some y → 0 < occurrences y xs
  picked_within p xs y e = keep_within p y xs (pick_extreme (keep p xs) y e).there

  pub pick_is : (xs : List ℕ) (y : ℕ) → Extreme R xs y → pick op xs ≡ some y
  pick_is [] y e = absurd (omega (arith, e.there))
  pick_is (x ∷ xs) y e =
      let f = extreme_of x xs in
      ap some (C.antisymmetric (join op x (pick op xs)) y (e.best _ f.there) (f.best y e.there))

  pick_none : (xs : List ℕ) → pick op xs ≡ none → xs ≡ []
  pick_none [] e = refl
  pick_none (x ∷ xs) e = let z : ◌≡◌ {A = ℕ} 0 1 = cc in absurd (omega arith)

  -- of two lists, where every entry of the one is as good as every entry of the other
  better : (xs ys zs : List ℕ) (o : Option ℕ) → pick op xs ≡ o
      → ((z : ℕ) → 0 < occurrences z xs → 0 < occurrences z zs)
      → ((z : ℕ) → 0 < occurrences z zs → (0 < occurrences z xs) ⊎ (0 < occurrences z ys))
      → ((x y : ℕ) → 0 < occurrences x xs → 0 < occurrences y ys → R y x)
      → (xs ≡ [] → zs ≡ ys)
      → pick op zs ≡ or_else o (pick op ys)
  better xs ys zs none e into out b empty = ap (pick op) (empty (pick_none xs e))
  better xs ys zs (some x) e into out b empty =
      let f = pick_extreme xs x e in
      pick_is zs x (record {
        there = into x f.there;
        best = λ z h. ⊎_elim (λ (p : 0 < occurrences z xs). f.best z p) (λ (p : 0 < occurrences z ys). b x z f.there p) (out z h);
      })

  either : (v : ℕ) (xs ys : List ℕ) → 0 < occurrences v (xs ++ ys) → (0 < occurrences v xs) ⊎ (0 < occurrences v ys)
  either v xs ys h = by_below 0 (occurrences v xs) (λ p. inl p) (λ p. inr (omega (arith, occurrences_append v xs ys)))

  either_way : (v : ℕ) (xs ys : List ℕ) → 0 < occurrences v (xs ++ ys) → (0 < occurrences v ys) ⊎ (0 < occurrences v xs)
  either_way v xs ys h = by_below 0 (occurrences v ys) (λ p. inl p) (λ p. inr (omega (arith, occurrences_append v xs ys)))

  pub pick_first : (xs ys : List ℕ) → ((x y : ℕ) → 0 < occurrences x xs → 0 < occurrences y ys → R y x) → pick op (xs ++ ys) ≡ or_else (pick op xs) (pick op ys)
  pick_first xs ys b =
      better xs ys (xs ++ ys) (pick op xs) refl
      (λ z h. omega (arith, occurrences_append z xs ys)) (λ z h. either z xs ys h) b (λ e. rw e)

  pub pick_second : (xs ys : List ℕ) → ((x y : ℕ) → 0 < occurrences x xs → 0 < occurrences y ys → R x y) → pick op (xs ++ ys) ≡ or_else (pick op ys) (pick op xs)
  pick_second xs ys b =
      better ys xs (xs ++ ys) (pick op ys) refl
      (λ z h. omega (arith, occurrences_append z xs ys)) (λ z h. either_way z xs ys h) (λ y x p q. b x y q p) (λ e. rw (e, append-nil xs))
