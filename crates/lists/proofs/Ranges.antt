-- The numbers from a up, by one more at the end, and those of them that pass a test; a test on every entry, by one more, and on every
-- place of a prefix.
-- Assumes nothing.
use mathlib.Core.Path.{◌≡◌, refl, sym, ap, ◌∙◌}
use mathlib.Core.Logic.{◌≢◌}
use mathlib.Core.Bool.{Bool, true, false, true≢false, ◌&&◌}
use mathlib.Core.List.{List, [], ◌∷◌, ◌++◌, append-nil}
use Prim.Native.Nat.{ℕ, zero, suc, ◌+◌, ◌≤◌, ◌<◌}
use native.Mathlib.Nat.{add-zero, zero-add}
use native.Mathlib.Numerals.{add-one}
use native.Mathlib.Decide.{le_ind}
use native.Mathlib.Omega.{arith}
use lib.ListN.{length, take, get_or}
use Rattle.lists.specs.Lists.{keep, occurrences, has, other, without, every, from, zero_to}
use Rattle.lists.proofs.Tests.{same_yes, same_no, by_test, by_same}
use Rattle.lists.proofs.Keeping.{both, keep_keep}
use Rattle.lists.proofs.Members.{has_yes, has_no, occurrences_keep_yes, occurrences_keep_no, keep_append, keep_passes, keep_agree}
use Rattle.lists.proofs.Without.{other_no, other_yes}

from_snoc : (a c : ℕ) → from a (suc c) ≡ from a c ++ ((a + c) ∷ [])
from_snoc a zero = rw (add-zero a)
from_snoc a (suc c) =
    let e : suc a + c ≡ a + suc c = omega arith in
    ap (λ (r : List ℕ). a ∷ r) (from_snoc (suc a) c ∙ ap (λ (x : ℕ). from (suc a) c ++ (x ∷ [])) e)

pub zero_to_suc : (c : ℕ) → zero_to (suc c) ≡ zero_to c ++ (c ∷ [])
zero_to_suc c = from_snoc 0 c ∙ ap (λ (x : ℕ). zero_to c ++ (x ∷ [])) (zero-add c)

pub zero_to_snoc : (c : ℕ) → zero_to (c + 1) ≡ zero_to c ++ (c ∷ [])
zero_to_snoc c = ap zero_to (add-one c) ∙ zero_to_suc c

-- each of them stands there once
occurrences_before : (v a c : ℕ) → v < a → occurrences v (from a c) ≡ 0
occurrences_before v a zero h = refl
occurrences_before v a (suc c) h = rw (same_no a v (λ e. omega arith)) (occurrences_before v (suc a) c (omega arith))

pub occurrences_from : (v a c : ℕ) → a ≤ v → v < a + c → occurrences v (from a c) ≡ 1
occurrences_from v a zero l h = absurd (omega arith)
occurrences_from v a (suc c) l h =
    by_same a v
    (λ e. rw (same_yes a v e) (ap suc (occurrences_before v (suc a) c (omega arith))))
    (λ d. rw (same_no a v d) (occurrences_from v (suc a) c (omega arith) (omega arith)))

-- where no number from d up passes, a longer range keeps no more
pub keep_range : (p : ℕ → Bool) (d c : ℕ) → d ≤ c → ((x : ℕ) → d ≤ x → p x ≡ false) → keep p (zero_to c) ≡ keep p (zero_to d)
keep_range p d c h f =
    le_ind {n = d} (λ j. keep p (zero_to j) ≡ keep p (zero_to d)) refl
    (λ j l e. ap (keep p) (zero_to_suc j) ∙ keep_append p (zero_to j) (j ∷ []) ∙ rw (f j l) (append-nil (keep p (zero_to j)) ∙ e))
    c h

-- ---- the numbers below c that pass a test, as a list

-- what passes is below c
abbrev pub Within : (ℕ → Bool) → ℕ → Type 0
Within p c = (x : ℕ) → p x ≡ true → x < c

pub within_no : (p : ℕ → Bool) (c x : ℕ) → Within p c → c ≤ x → p x ≡ false
within_no p c x w h = by_test (p x) (λ y. absurd (omega (arith, w x y, h))) (λ n. n)

pub kept_once : (p : ℕ → Bool) (c x : ℕ) → Within p c → p x ≡ true → occurrences x (keep p (zero_to c)) ≡ 1
kept_once p c x w y = occurrences_keep_yes p x (zero_to c) y ∙ occurrences_from x 0 c (omega arith) (omega (arith, w x y))

-- it has just those that pass
pub has_kept : (p : ℕ → Bool) (c x : ℕ) → Within p c → has x (keep p (zero_to c)) ≡ p x
has_kept p c x w =
    by_test (p x)
    (λ y. has_yes x (keep p (zero_to c)) (omega (arith, kept_once p c x w y)) ∙ sym y)
    (λ n. has_no x (keep p (zero_to c)) (occurrences_keep_no p x (zero_to c) n) ∙ sym n)

-- a test that x fails and that is the other one on every other number: the list without x
module _ (p q : ℕ → Bool) (x d c : ℕ) (less : d ≤ c) (within : Within q d) (gone : q x ≡ false) (rest : (y : ℕ) → y ≢ x → q y ≡ p y) where
  agrees : (y : ℕ) → 0 < occurrences y (keep p (zero_to c)) → other x y ≡ q y
  agrees y h =
      by_same y x
      (λ e. other_no x y e ∙ sym (ap q e ∙ gone))
      (λ n. other_yes x y n ∙ sym (rest y n ∙ keep_passes p y (zero_to c) h))

  stays : (y : ℕ) → q y ≡ true → p y ≡ true
  stays y h =
      by_same y x
      (λ e. absurd (true≢false (sym h ∙ ap q e ∙ gone)))
      (λ n. sym (rest y n) ∙ h)

  pub keep_out : keep q (zero_to d) ≡ without x (keep p (zero_to c))
  keep_out =
      sym (keep_agree (other x) q (keep p (zero_to c)) agrees
      ∙ keep_keep q p stays (zero_to c)
      ∙ keep_range q d c less (λ y h. within_no q d y within h))

-- ---- every entry

pub every_snoc : (p : ℕ → Bool) (xs : List ℕ) (x : ℕ) → every p (xs ++ (x ∷ [])) ≡ (every p xs && p x)
unfolding every
every_snoc p [] x = and_true (p x)
  where
    and_true : (b : Bool) → (b && true) ≡ b
    and_true true = refl
    and_true false = refl
every_snoc p (y ∷ xs) x = ap (λ (b : Bool). p y && b) (every_snoc p xs x) ∙ regroup (p y) (every p xs) (p x)
  where
    regroup : (a b c : Bool) → (a && (b && c)) ≡ ((a && b) && c)
    regroup true b c = refl
    regroup false b c = refl

pub every_take : (p : ℕ → Bool) (xs : List ℕ) (c : ℕ) → c ≤ length xs → ((i : ℕ) → i < c → p (get_or xs i 0) ≡ true) → every p (take c xs) ≡ true
unfolding every
every_take p xs zero h f = refl
every_take p [] (suc c) h f = absurd (omega arith)
every_take p (x ∷ xs) (suc c) h f = rw (f 0 (omega arith)) (every_take p xs c (omega arith) (λ i l. f (suc i) (omega arith)))

pub every_place : (p : ℕ → Bool) (xs : List ℕ) (c i : ℕ) → every p (take c xs) ≡ true → i < c → i < length xs → p (get_or xs i 0) ≡ true
unfolding every
every_place p xs zero i e h l = absurd (omega arith)
every_place p [] (suc c) i e h l = absurd (omega arith)
every_place p (x ∷ xs) (suc c) zero e h l = (both (p x) (every p (take c xs)) e).0
every_place p (x ∷ xs) (suc c) (suc i) e h l = every_place p xs c i (both (p x) (every p (take c xs)) e).1 (omega arith) (omega arith)
