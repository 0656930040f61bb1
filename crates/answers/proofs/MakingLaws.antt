-- The tests of k and n of a call that makes a record: by cases, and from what they say.
-- Assumes nothing.
use mathlib.Core.Path.{◌≡◌, sym, ap, ◌∙◌}
use Prim.Native.Nat.{ℕ, ◌≤◌, ◌<◌}
use native.Mathlib.Omega.{arith}
use borrow.Author.Tests.{lt-ltb, le-ltb, ltb-true, ltb-false}
use lib.Dec.{ltb}
use Rattle.lists.proofs.Tests.{by_below, by_cond}
use Rattle.answers.specs.Answers.{Answer, refusal, result}
use Rattle.answers.specs.Making.{by_sizes}
use Rattle.answers.proofs.AnswerLaws.{not_said, refusal_same}

module _ (limit least k n : ℕ) where
  -- numbers that pass
  pub record Sizes : Type 0 where
    pub limited : n ≤ limit
    pub enough : least ≤ k
    pub few : k ≤ n

  pub sizes_pass : {A : Type 0} (refuse : ℕ → A) (a : A) → Sizes → by_sizes limit least k n refuse a ≡ a
  sizes_pass refuse a s = rw (le-ltb limit n s.limited, le-ltb k least s.enough, le-ltb n k s.few)

  -- what holds of each refusal and of what there is otherwise
  pub sizes_by : {A : Type 0} (P : A → Type 0) (refuse : ℕ → A) (a : A) → (limit < n → P (refuse 1)) → (k < least → P (refuse 2)) → (n < k → P (refuse 3))
      → (Sizes → P a) → P (by_sizes limit least k n refuse a)
  sizes_by P refuse a above less more good =
      by_cond P (ltb limit n) _ _ (λ y. above (ltb-true limit n y))
      (λ m. by_cond P (ltb k least) _ _ (λ y. less (ltb-true k least y))
      (λ o. by_cond P (ltb n k) _ _ (λ y. more (ltb-true n k y))
      (λ f. good (record { limited = ltb-false limit n m; enough = ltb-false k least o; few = ltb-false n k f }))))

  -- one refusal, whatever is made of it, or numbers that pass
  pub sizes_cases : {C : Type 0} → ((w : ℕ) → ((A : Type 0) (refuse : ℕ → A) (a : A) → by_sizes limit least k n refuse a ≡ refuse w) → C) → (Sizes → C) → C
  sizes_cases refused good =
      by_below limit n
      (λ h. refused 1 (λ A refuse a. rw (lt-ltb limit n h)))
      (λ l. by_below k least
      (λ h. refused 2 (λ A refuse a. rw (le-ltb limit n l, lt-ltb k least h)))
      (λ e. by_below n k
      (λ h. refused 3 (λ A refuse a. rw (le-ltb limit n l, le-ltb k least e, lt-ltb n k h)))
      (λ f. good (record { limited = l; enough = e; few = f }))))

  pub sizes_yes : {A : Type 0} (x : A) → result x ≡ by_sizes limit least k n refusal (result x) → Sizes
  sizes_yes x e = sizes_cases (λ w is. not_said w x (sym (e ∙ is _ refusal (result x)))) (λ s. s)

  -- a refusal of the numbers, in whatever form
  pub sizes_no : {A B : Type 0} (x : A) (c : ℕ) → refusal c ≡ by_sizes limit least k n refusal (result x) → (refuse : ℕ → B) (b : B) → refuse c ≡ by_sizes limit least k n refuse b
  sizes_no x c e refuse b =
      sizes_cases
      (λ w is. ap refuse (refusal_same c w (e ∙ is _ refusal (result x))) ∙ sym (is _ refuse b))
      (λ s. not_said c x (e ∙ sizes_pass refusal (result x) s))
