-- Lists as sets: two lists with the same members.
-- Assumes nothing.
use mathlib.Core.Path.{◌≡◌, refl, sym, ◌∙◌}
use mathlib.Core.Bool.{true≢false}
use mathlib.Core.List.{List, [], ◌∷◌}
use Prim.Native.Nat.{ℕ}
use native.Mathlib.Omega.{arith}
use borrow.Author.Tests.{ne_eqb}
use lib.Dec.{eqb}
use lib.ListN.{length}
use Rattle.lists.specs.Lists.{has, without}
use Rattle.lists.proofs.Tests.{by_same}
use Rattle.lists.proofs.Members.{has_no}
use Rattle.lists.proofs.Having.{has_head, has_tail, has_out, has_others}

-- the same numbers stand in both
abbrev pub Same : List ℕ → List ℕ → Type 0
Same xs ys = (x : ℕ) → has x xs ≡ has x ys

pub same_put : (x : ℕ) (xs ys : List ℕ) → Same xs ys → Same (x ∷ xs) (x ∷ ys)
same_put x xs ys e y =
    by_same y x
    (λ s. rw s (has_head x xs ∙ sym (has_head x ys)))
    (λ d. has_tail y x xs d ∙ e y ∙ sym (has_tail y x ys d))

pub same_without : (x : ℕ) (xs ys : List ℕ) → Same xs ys → Same (without x xs) (without x ys)
same_without x xs ys e y =
    by_same y x
    (λ s. rw s (has_out x xs ∙ sym (has_out x ys)))
    (λ d. has_others y x xs d ∙ e y ∙ sym (has_others y x ys d))

-- one is empty where the other is
pub same_empty : (xs ys : List ℕ) → Same xs ys → eqb (length xs) 0 ≡ eqb (length ys) 0
same_empty [] [] e = refl
same_empty [] (y ∷ ys) e = absurd (true≢false (sym (has_head y ys) ∙ sym (e y) ∙ has_no y [] refl))
same_empty (x ∷ xs) [] e = absurd (true≢false (sym (has_head x xs) ∙ e x ∙ has_no x [] refl))
same_empty (x ∷ xs) (y ∷ ys) e = ne_eqb (length (x ∷ xs)) 0 (λ z. omega arith) ∙ sym (ne_eqb (length (y ∷ ys)) 0 (λ z. omega arith))
