-- A line's fields, as std's iterator over the parts between tabs yields them, and as they are read off the promise of `apart`.
-- Assumes nothing.
use Rattle.std.proofs.Common.{◌≡◌, refl, sym, ap, ◌∙◌, List, [], ◌∷◌, ◌++◌, append_assoc, append-nil, ℕ, ◌<◌, ◌≤◌, Bool, true, false, Option, Some, None}
use borrow.Author.Tests.{le-leb, lt-leb, leb-false}
use lib.Dec.{eqb, leb}
use lib.ListN.{length}
use Rattle.std.proofs.Math.Option as maybe
use Rattle.std.proofs.Math.Option.{none, some}
use Rattle.std.specs.Option.{is_some}
use Rattle.std.specs.List.{slice_split, onto_first}
use denote.Ref.{Bor}
use denote.Param.Members.{Mut}
use Rattle.std.specs.Fn.{ComputesKey, CalledAt}
use Rattle.std.specs.Slice.Iter.{split_steps, split_rest, split_done, split_callee}
use Rattle.std.proofs.lemmas.Iterator.{YieldsList}
use Rattle.std.proofs.lemmas.Iterator.Splits.{YieldsList-from_slice_split}
use Rattle.lists.proofs.Tests.{by_cond}
use Rattle.fields.specs.Lines.{onto, fields}
use Rattle.fields.specs.Parts.{at_most_four}

-- ---- calls of an iterator

-- what is left of a list that an iterator yields when x was its first
pub record Left {S A B : Type 0} (steps : S → Option A → S → Type 0) (v : A → B) (x : A) (t : S) (ys : List B) : Type 0 where
  pub rest : List B
  pub is : ys ≡ v x ∷ rest
  pub yields : YieldsList steps v t rest

module _ {S A B : Type 0} {steps : S → Option A → S → Type 0} {v : A → B} {s t : S} where
  pub next_some : {ys : List B} {x : A} → YieldsList steps v s ys → steps s (Some x) t → Left steps v x t ys
  next_some {ys = []} {x = x} w p = absurd (w.runs x t p)
  next_some {ys = y ∷ ys} {x = x} w p =
      let m = w.runs.1 x t p in
      record { rest = ys; is = ap (λ (z : B). z ∷ ys) (sym m.0); yields = record { runs = m.1 } }

  pub next_none : {ys : List B} → YieldsList steps v s ys → steps s None t → ys ≡ []
  next_none {ys = []} w p = refl
  next_none {ys = y ∷ ys} w p = absurd (w.runs.0 t p)

-- what an iterator still yields of a list, when those in front came
pub record Past {S A B : Type 0} (steps : S → Option A → S → Type 0) (v : A → B) (front : List B) (t : S) (ys : List B) : Type 0 where
  pub rest : List B
  pub is : ys ≡ front ++ rest
  pub yields : YieldsList steps v t rest

module _ {S A B : Type 0} {steps : S → Option A → S → Type 0} {v : A → B} {t : S} {front ys : List B} (p : Past steps v front t ys) where
  pub past_more : (x : A) (u : S) → steps t (Some x) u → Past steps v (front ++ (v x ∷ [])) u ys
  past_more x u q =
      let n = next_some {t = u} {x = x} p.yields q in
      record {
        rest = n.rest;
        is = p.is ∙ ap (λ (r : List B). front ++ r) n.is ∙ sym (append_assoc front (v x ∷ []) n.rest);
        yields = n.yields;
      }

  pub past_ends : (u : S) → steps t None u → ys ≡ front
  past_ends u q = p.is ∙ ap (λ (r : List B). front ++ r) (next_none {t = u} p.yields q) ∙ append-nil front

  -- by what `is_some` says of an item
  pub past_is : (r : Option A) (u : S) → true ≡ is_some r → steps t r u → (y : B) × (zs : List B) × (ys ≡ front ++ (y ∷ zs))
  past_is (Some x) u e q = let n = next_some {t = u} {x = x} p.yields q in (v x, n.rest, p.is ∙ ap (λ (r : List B). front ++ r) n.is)
  past_is None u e q = cc

  pub past_not : (r : Option A) (u : S) → false ≡ is_some r → steps t r u → ys ≡ front
  past_not (Some x) u e q = cc
  past_not None u e q = past_ends u q

-- the parts of a line that a closure cuts; `by_test` is only there to tell which closure
pub split_start : {F : Type 0} {g : Mut F (Bor ℕ × Unit {0}) Bool} {s : _} {X : (ℕ → Bool) → Type 0} (by_test : (p : ℕ → Bool) → ComputesKey g p (split_callee s) → X p)
    → (p : ℕ → Bool) {f : F} (xs : List ℕ) → split_rest s ≡ xs → split_done s ≡ false → split_callee s ≡ f
    → ((x : ℕ) (b : Bool) (q : F) → CalledAt g f x b q → (q ≡ f) × (b ≡ p x)) → Past (split_steps g) (λ x. x.now) [] s (slice_split p xs)
split_start {g = g} by_test p xs rest done callee tests = record { rest = slice_split p xs; is = refl; yields = YieldsList-from_slice_split g p xs rest done callee tests }

-- ---- a line

onto_same : (b : ℕ) (ps : List (List ℕ)) → onto_first b ps ≡ onto b ps
onto_same b [] = refl
onto_same b (p ∷ ps) = refl

-- its fields are the parts that `split` cuts at tabs
pub fields_split : (l : List ℕ) → slice_split (λ b. eqb b 9) l ≡ fields l
fields_split [] = refl
fields_split (b ∷ l) = rw (fields_split l, onto_same b (fields l))

-- so the fields are known by them,
pub parts_are : (l : List ℕ) (fs : List (List ℕ)) → slice_split (λ b. eqb b 9) l ≡ fs → length fs ≤ 4 → some fs ≡ at_most_four (fields l)
unfolding at_most_four
parts_are l fs e h = rw (← fields_split l, e, le-leb (length fs) 4 h)

-- and more than four are too many
pub parts_more : (l : List ℕ) (fs : List (List ℕ)) → slice_split (λ b. eqb b 9) l ≡ fs → 4 < length fs → none ≡ at_most_four (fields l)
unfolding at_most_four
parts_more l fs e h = rw (← fields_split l, e, lt-leb (length fs) 4 h)

-- ---- what is read off a promise

pub listed_are : (fs gs : List (List ℕ)) → some gs ≡ at_most_four fs → fs ≡ gs
unfolding at_most_four
listed_are fs gs =
    by_cond (λ (o : maybe.Option (List (List ℕ))). some gs ≡ o → fs ≡ gs) (leb (length fs) 4) _ _ (λ y e. cc) (λ n e. cc)

pub listed_more : (fs : List (List ℕ)) → none ≡ at_most_four fs → 4 < length fs
unfolding at_most_four
listed_more fs =
    by_cond (λ (o : maybe.Option (List (List ℕ))). none ≡ o → 4 < length fs) (leb (length fs) 4) _ _ (λ y e. cc) (λ n e. leb-false (length fs) 4 n)
