-- The tests `below`, `not_below` and `same`: from a fact to the test, from the test to the fact, and by cases.
-- Assumes nothing.
use mathlib.Core.Path.{◌≡◌, refl, sym, ◌∙◌}
use mathlib.Core.Logic.{◌≢◌}
use mathlib.Core.Bool.{Bool, true, false, cond, true≢false}
use Prim.Native.Nat.{ℕ, ◌≤◌, ◌<◌}
use native.Mathlib.Omega.{arith}
use borrow.Author.Tests.{ltb-true, ltb-false, eqb-true, lt-ltb, le-ltb, le-leb, lt-leb, eq-eqb, ne_eqb}
use Rattle.lists.specs.Lists.{below, not_below, same}

pub below_yes : (x n : ℕ) → x < n → below n x ≡ true
unfolding below
below_yes x n h = lt-ltb x n h

pub below_no : (x n : ℕ) → n ≤ x → below n x ≡ false
unfolding below
below_no x n h = le-ltb x n h

pub below→lt : {x n : ℕ} → below n x ≡ true → x < n
unfolding below
below→lt {x} {n} e = ltb-true x n e

pub not_below→le : {x n : ℕ} → below n x ≡ false → n ≤ x
unfolding below
not_below→le {x} {n} e = ltb-false x n e

pub not_below_yes : (x n : ℕ) → n ≤ x → not_below n x ≡ true
unfolding not_below
not_below_yes x n h = le-leb n x h

pub not_below_no : (x n : ℕ) → x < n → not_below n x ≡ false
unfolding not_below
not_below_no x n h = lt-leb n x h

pub same_yes : (x v : ℕ) → x ≡ v → same v x ≡ true
unfolding same
same_yes x v e = eq-eqb x v e

pub same_no : (x v : ℕ) → x ≢ v → same v x ≡ false
unfolding same
same_no x v e = ne_eqb x v e

pub same→eq : {x v : ℕ} → same v x ≡ true → x ≡ v
unfolding same
same→eq {x} {v} e = eqb-true x v e

-- by cases: the test passes or fails
pub by_test : {C : Type 0} (b : Bool) → (b ≡ true → C) → (b ≡ false → C) → C
by_test true f g = f refl
by_test false f g = g refl

-- by cases: x is below n or not
pub by_below : {C : Type 0} (x n : ℕ) → (x < n → C) → (n ≤ x → C) → C
by_below x n f g = by_test (below n x) (λ y. f (below→lt y)) (λ m. g (not_below→le m))

-- by cases: x is v or not
pub by_same : {C : Type 0} (x v : ℕ) → (x ≡ v → C) → (x ≢ v → C) → C
by_same x v f g = by_test (same v x) (λ y. f (same→eq y)) (λ m. g (λ e. true≢false (sym (same_yes x v e) ∙ m)))

-- by cases: x is below v, is v, or is above v
pub by_three : {C : Type 0} (x v : ℕ) → (x < v → C) → (x ≡ v → C) → (v < x → C) → C
by_three x v f g h = by_below x v f (λ l. by_same x v g (λ d. h (omega arith)))

-- by cases: what holds of both arms of a test, where each may know how it went
pub by_cond : {A : Type 0} (P : A → Type 0) (b : Bool) (x y : A) → (b ≡ true → P x) → (b ≡ false → P y) → P (cond b x y)
by_cond P true x y f g = f refl
by_cond P false x y f g = g refl
