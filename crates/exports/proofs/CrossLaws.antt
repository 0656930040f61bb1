-- What a call leaves as it crosses, in the terms of its code: once for any record, and for any call on it.
-- Assumes nothing.
use mathlib.Core.Path.{◌≡◌, sym, ap, ◌∙◌}
use mathlib.Core.List.{List}
use Prim.Native.Nat.{ℕ, ◌+◌, ◌^◌, ◌≤◌, ◌<◌}
use borrow.Author.Tests.{lt-ltb, le-ltb}
use lib.ListN.{length}
use Rattle.answers.specs.Answers.{After}
use Rattle.lists.specs.Lists.{written}
use Rattle.exports.specs.Coded.{coded_by}
use Rattle.exports.specs.Crossings.{Crossed, crossed, Layout, Lending, enough, words_by, made, called, read_by, fits_by}
use Rattle.exports.specs.InnerRecords.{made_over}
use Rattle.exports.proofs.KeptLaws.{kept_made}

module _ {R : Type 0} (y : Layout R) (ws : List ℕ) where
  -- ---- too few words

  pub too_few : length ws < y.count → {M : Type 0} (x w : ℕ) (m : M) (a : Crossed M) → x ≡ 2 ^ 63 + w → crossed x m ≡ enough y w ws m a
  too_few h x w m a e = rw (e, lt-ltb (length ws) y.count h)

  pub fits_few : length ws < y.count → (x b : ℕ) → x ≡ 2 ^ 63 + 4 → x ≡ fits_by y ws b
  fits_few h x b e = rw (e, lt-ltb (length ws) y.count h)

  -- ---- enough of them

  module _ (h : y.count ≤ length ws) where
    pub made_is : {N M : Type 0} (short : ℕ) (lay : List ℕ → N → M) (n : N) (a : After N R) (x : ℕ) (ws' : List ℕ)
        → x ≡ coded_by (λ r. 0) a.answer → ws' ≡ made_over (λ w r. written (y.words r) w) ws a.answer
        → crossed x (lay ws' a.left) ≡ made y short lay ws n a
    made_is short lay n a x ws' e f = rw (le-ltb (length ws) y.count h) (λ i. crossed (e i) (lay ((f ∙ kept_made y.words ws a.answer) i) a.left))

    pub read_is : {M A : Type 0} (value : A → ℕ) (m : M) (a : After M A) (x : ℕ) → x ≡ coded_by value a.answer → crossed x a.left ≡ read_by y value ws m a
    read_is value m a x e = rw (le-ltb (length ws) y.count h) (λ i. crossed (e i) a.left)

    pub fits_is : (x b : ℕ) → x ≡ b → x ≡ fits_by y ws b
    fits_is x b e = rw (le-ltb (length ws) y.count h) e

-- a call on the record in the words, which with the rest is `of` that record
module _ {R S M : Type 0} (d : Lending R S M) (of : R → S) (ws : List ℕ) (h : d.layout.count ≤ length ws) where
  pub called_is : {A : Type 0} (value : A → ℕ) (call : S → After S A) (r : R) (a : After S A) (x : ℕ) (ws' : List ℕ)
      → r ≡ d.layout.reads ws → a ≡ call (of r) → x ≡ coded_by value a.answer → ws' ≡ words_by (λ v. d.layout.words (d.own a.left)) ws a.answer
      → crossed x (d.lay ws' a.left) ≡ called d value ws (of (d.layout.reads ws)) call
  called_is value call r a x ws' is e f g =
      let from_words : call (of (d.layout.reads ws)) ≡ a = sym (e ∙ ap (λ (z : R). call (of z)) is) in
      rw (le-ltb (length ws) d.layout.count h, from_words) (λ i. crossed (f i) (d.lay (g i) a.left))
