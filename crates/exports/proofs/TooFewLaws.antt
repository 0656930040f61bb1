-- A record's words are too few for a record: refusal 4 before all else.
-- Assumes nothing.
use mathlib.Core.Path.{◌≡◌, refl, ap}
use mathlib.Core.Bool.{Bool, true, false, cond}
use mathlib.Core.List.{List, ◌∷◌}
use Prim.Native.Nat.{ℕ, ◌^◌}
use native.Mathlib.Omega.{arith}
use lib.Dec.{ltb}
use lib.ListN.{length}
use Rattle.answers.specs.Answers.{Answer, refusal, result, After}
use Rattle.lists.specs.Lists.{same, has, every}
use Rattle.answers.proofs.Spared.{has_within}
use Rattle.answers.specs.Refusing.{Among, Spares}
use Rattle.lists.proofs.Having.{has_head, has_more}
use Rattle.choosers.specs.RefusedBy as lists
use Rattle.exports.specs.Coded.{truth}
use Rattle.answers.specs.Making.{short_refusal}
use Rattle.answers.proofs.MakingLaws.{sizes_by}
use Rattle.exports.specs.Crossings.{Crossed, Layout, Lending, words_by, made, called, read_by, fits_by}
use Rattle.exports.specs.RefusedBy.{Crosses, said_else, said_by, words_refusals}

-- 4 comes before all else
pub first_four : {A M : Type 0} (vs : List ℕ) (t : Answer A) (before now : M) → Spares vs t before now → Spares (4 ∷ vs) t before now
first_four vs (refusal w) before now s = (has_more w 4 vs s.0, s.1)
first_four vs (result x) before now s = tt

pub four : (vs : List ℕ) → has 4 (4 ∷ vs) ≡ true
four vs = has_head 4 vs

-- 1 or 4 where a record is made without a k, also 3 with one
pub short_among : (limit n : ℕ) (ws : List ℕ) → has 1 ws ≡ true → has 4 ws ≡ true → has (short_refusal limit 0 0 n) ws ≡ true
short_among limit n ws one four =
    sizes_by limit 0 0 n (λ w. has w ws ≡ true) (λ w. w) 4 (λ y. one) (λ y. absurd (omega (arith, y))) (λ y. absurd (omega (arith, y))) (λ s. four)

pub short_with_k : (n k : ℕ) → has (short_refusal (2 ^ 62) 0 k n) lists.with_k_refusals ≡ true
unfolding has same
short_with_k n k =
    sizes_by (2 ^ 62) 0 k n (λ w. has w lists.with_k_refusals ≡ true) (λ w. w) 4 (λ y. refl) (λ y. absurd (omega (arith, y))) (λ y. refl) (λ s. refl)

-- by cases: there are too few, or enough
by_words : {A X : Type 0} (P : Answer A → X → Type 0) (few : Bool) {r t : Answer A} {x y : X} → P r x → P t y → P (cond few r t) (cond few x y)
by_words P true p q = p
by_words P false p q = q

-- what is laid beside the words: a refusal leaves both
laid : {A S M : Type 0} (lay : List ℕ → S → M) (vs : List ℕ) (f : A → List ℕ) (ws : List ℕ) (t : Answer A) (s s' : S) → Spares vs t s s'
    → Spares vs t (lay ws s) (lay (words_by f ws t) s')
laid lay vs f ws (refusal w) s s' h = (h.0, ap (lay ws) h.1)
laid lay vs f ws (result x) s s' h = tt

-- where nothing else is lent there is nothing else that a refusal could change
pub alone : {A : Type 0} (vs ws : List ℕ) → every (λ v. has v ws) vs ≡ true → (t : Answer A) → Among vs t → Spares {M = Unit {0}} ws t tt tt
alone vs ws e (refusal w) a = (has_within vs ws e w a, refl)
alone vs ws e (result x) a = tt

module _ {R : Type 0} (y : Layout R) (ws : List ℕ) where
  abbrev CrossesAs : {A M : Type 0} → (A → ℕ) → List ℕ → M → Answer A → Crossed M → Type 0
  CrossesAs value vs m t a = Crosses value vs t a.answer m a.left

  -- ---- a call that makes a record

  pub made_refuses : {N M : Type 0} (short : ℕ) (lay : List ℕ → N → M) (n : N) (vs : List ℕ) (a : After N R) → has short vs ≡ true → Spares vs a.answer n a.left
      → let x = made y short lay ws n a in Crosses (λ r. 0) vs (said_else short y.count ws a.answer) x.answer (lay ws n) x.left
  made_refuses short lay n vs a h s =
      by_words (CrossesAs (λ r. 0) vs (lay ws n)) (ltb (length ws) y.count) (refl, (h, refl)) (refl, laid lay vs y.words ws a.answer n a.left s)

  -- ---- a call that only reads one

  pub read_refuses : {M A : Type 0} (value : A → ℕ) (vs : List ℕ) (m : M) (a : After M A) → Spares vs a.answer m a.left
      → let x = read_by y value ws m a in Crosses value (4 ∷ vs) (said_by y.count ws a.answer) x.answer m x.left
  read_refuses value vs m a s =
      by_words (CrossesAs value (4 ∷ vs) m) (ltb (length ws) y.count) (refl, (four vs, refl)) (refl, first_four vs a.answer m a.left s)

  -- whether a record fits: nothing is lent to be written
  pub fits_refuses : (b : Bool) → Crosses {M = Unit {0}} truth words_refusals (said_by y.count ws (result b)) (fits_by y ws (truth b)) tt tt
  unfolding has same
  fits_refuses b =
      by_words (λ (t : Answer Bool) (a : ℕ). Crosses {M = Unit {0}} truth words_refusals t a tt tt) (ltb (length ws) y.count)
      (refl, (refl, refl)) (refl, tt)

-- ---- a call on a record

pub called_refuses : {R S M A : Type 0} (d : Lending R S M) (value : A → ℕ) (vs ws : List ℕ) (s : S) (call : S → After S A)
    → Spares vs (call s).answer s (call s).left
    → let x = called d value ws s call in Crosses value (4 ∷ vs) (said_by d.layout.count ws (call s).answer) x.answer (d.lay ws s) x.left
called_refuses d value vs ws s call h =
    let a = call s in
    by_words (CrossesAs d.layout ws value (4 ∷ vs) (d.lay ws s)) (ltb (length ws) d.layout.count)
    (refl, (four vs, refl))
    (refl, first_four vs a.answer _ _ (laid d.lay vs _ ws a.answer s a.left h))
