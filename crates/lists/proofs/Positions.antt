-- Where the first entry that passes a test stands, as the library's `position_or_len` says it.
-- Assumes nothing.
use mathlib.Core.Path.{◌≡◌, refl, sym, ap, ◌∙◌}
use mathlib.Core.Logic.{◌≢◌}
use mathlib.Core.Bool.{Bool, true, false, true≢false}
use mathlib.Core.List.{List, [], ◌∷◌}
use Prim.Native.Nat.{ℕ, zero, suc, ◌≤◌, ◌<◌}
use native.Mathlib.Nat.{not-suc-le-zero}
use native.Mathlib.Omega.{arith}
use lib.ListN.{length, take, drop, get_or}
use Rattle.std.specs.List.{position_or_len}
use Rattle.lists.specs.Lists.{keep, same, more, occurrences, up_to, replace}
use Rattle.lists.proofs.Tests.{same_yes, same_no, by_same, by_test}
use Rattle.lists.proofs.Keeping.{All, all_at, all_drop}
use Rattle.lists.proofs.Prefixes.{up_to_zero, occurrences_at}

-- at the head
first_yes : (p : ℕ → Bool) (x : ℕ) (xs : List ℕ) → p x ≡ true → position_or_len p (x ∷ xs) ≡ 0
first_yes p x xs e = rw e

first_no : (p : ℕ → Bool) (x : ℕ) (xs : List ℕ) → p x ≡ false → position_or_len p (x ∷ xs) ≡ suc (position_or_len p xs)
first_no p x xs e = rw e (omega arith)

pub same_first : (v x : ℕ) (xs : List ℕ) → x ≡ v → position_or_len (same v) (x ∷ xs) ≡ 0
same_first v x xs e = first_yes (same v) x xs (same_yes x v e)

same_later : (v x : ℕ) (xs : List ℕ) → x ≢ v → position_or_len (same v) (x ∷ xs) ≡ suc (position_or_len (same v) xs)
same_later v x xs d = first_no (same v) x xs (same_no x v d)

-- ---- a number's position

-- in a list without repetitions the t-th entry stands at t
pub position_of : (xs : List ℕ) → ((v : ℕ) → occurrences v xs ≤ 1) → (t : ℕ) → t < length xs → position_or_len (same (get_or xs t 0)) xs ≡ t
position_of [] once t l = absurd (not-suc-le-zero l)
position_of (x ∷ xs) once zero l = same_first x x xs refl
position_of (x ∷ xs) once (suc t) l =
    let v : ℕ = get_or xs t 0 in
    let p : 0 < occurrences v xs = occurrences_at xs t (omega arith) in
    by_same x v
    (λ e. absurd (let o : occurrences v (x ∷ xs) ≤ 1 = once v in
    let q : suc (occurrences v xs) ≤ 1 = rw (same_yes x v e) at o in
    omega arith))
    (λ d. same_later v x xs d ∙ ap suc (position_of xs (λ u. rest (same u x) (occurrences u xs) (once u)) t (omega arith)))
  where
    rest : (b : Bool) (k : ℕ) → more b k ≤ 1 → k ≤ 1
    rest true k h = omega arith
    rest false k h = h

-- and what stands at the position of v is v, where v is there
pub at_position : (v : ℕ) (xs : List ℕ) → 0 < occurrences v xs → (position_or_len (same v) xs < length xs) × (get_or xs (position_or_len (same v) xs) 0 ≡ v)
at_position v [] p = absurd (not-suc-le-zero p)
at_position v (x ∷ xs) p =
    by_same x v
    (λ e. rw (same_first v x xs e) (omega arith, e))
    (λ d. let q : 0 < occurrences v xs = rw (same_no x v d) at p in
    let r = at_position v xs q in
    rw (same_later v x xs d) (omega (arith, r.0), r.1))

-- it stands before k exactly if it is among the first k
pub before : (v k : ℕ) (xs : List ℕ) → 0 < occurrences v xs → (position_or_len (same v) xs < k → 0 < occurrences v (take k xs)) × (k ≤ position_or_len (same v) xs → occurrences v (take k xs) ≡ 0)
before v k [] p = absurd (not-suc-le-zero p)
before v zero (x ∷ xs) p = ((λ h. absurd (not-suc-le-zero h)), (λ h. refl))
before v (suc k) (x ∷ xs) p =
    by_same x v
    (λ e. ((λ h. rw (same_yes x v e) (omega arith)), (λ h. absurd (omega (arith, same_first v x xs e)))))
    (λ d. let q : 0 < occurrences v xs = rw (same_no x v d) at p in
    let r = before v k xs q in
    let n : position_or_len (same v) (x ∷ xs) ≡ suc (position_or_len (same v) xs) = same_later v x xs d in
    ((λ h. rw (same_no x v d) (r.0 (omega (arith, n)))), (λ h. rw (same_no x v d) (r.1 (omega (arith, n))))))

-- ---- by the list up to it

pub position_up_to : (p : ℕ → Bool) (xs : List ℕ) → 0 < length (keep p xs) → suc (position_or_len p xs) ≡ length (up_to p 1 xs)
position_up_to p [] h = absurd (not-suc-le-zero h)
position_up_to p (x ∷ xs) h =
    by_test (p x)
    (λ y. rw (first_yes p x xs y, y, up_to_zero p xs) refl)
    (λ n. let m : 0 < length (keep p xs) = rw n at h in rw (first_no p x xs n, n) (ap suc (position_up_to p xs m)))

-- ---- where entries that pass are replaced by others that pass, or those that fail are dropped

-- v stands among the others: its position is that of the entry which it replaces
pub position_replace : (p : ℕ → Bool) (v : ℕ) → p v ≡ true → (xs olds : List ℕ) → length olds ≤ length (keep p xs) → 0 < occurrences v olds
    → suc (position_or_len (same v) (replace p xs olds)) ≡ length (up_to p (suc (position_or_len (same v) olds)) xs)
position_replace p v pv xs [] l h = absurd (not-suc-le-zero h)
position_replace p v pv [] (o ∷ olds) l h = absurd (not-suc-le-zero l)
position_replace p v pv (x ∷ xs) (o ∷ olds) l h =
    by_test (p x)
    (λ y. by_same o v
    (λ e. rw (y, same_first v o (replace p xs olds) e, same_first v o olds e, up_to_zero p xs) refl)
    (λ d. let m : suc (length olds) ≤ suc (length (keep p xs)) = rw y at l in
    let q : 0 < occurrences v olds = rw (same_no o v d) at h in
    rw (y, same_later v o (replace p xs olds) d, same_later v o olds d) (ap suc (position_replace p v pv xs olds (omega arith) q))))
    (λ n. by_same x v
    (λ e. absurd (true≢false (sym pv ∙ ap p (sym e) ∙ n)))
    (λ d. let m : suc (length olds) ≤ length (keep p xs) = rw n at l in
    rw (n, same_later v x (replace p xs (o ∷ olds)) d) (ap suc (position_replace p v pv xs (o ∷ olds) m h))))

-- a number that fails stands where it stood
pub position_others : (p : ℕ → Bool) (v : ℕ) → p v ≡ false → p 0 ≡ true → (xs olds : List ℕ) → All p olds → position_or_len (same v) (replace p xs olds) ≡ position_or_len (same v) xs
position_others p v pv p0 [] olds a = refl
position_others p v pv p0 (x ∷ xs) olds a =
    by_test (p x)
    (λ y. let o : ℕ = get_or olds 0 0 in
    let px : x ≢ v = (λ e. true≢false (sym y ∙ ap p e ∙ pv)) in
    let po : o ≢ v = (λ e. true≢false (sym (all_at p p0 olds a 0) ∙ ap p e ∙ pv)) in
    rw (y, same_later v o (replace p xs (drop 1 olds)) po, same_later v x xs px) (ap suc (position_others p v pv p0 xs (drop 1 olds) (all_drop p olds a))))
    (λ n. by_same x v
    (λ e. rw (n, same_first v x (replace p xs olds) e, same_first v x xs e) refl)
    (λ d. rw (n, same_later v x (replace p xs olds) d, same_later v x xs d) (ap suc (position_others p v pv p0 xs olds a))))

-- where others are dropped, the position is how many stay before it
pub position_keep : (p : ℕ → Bool) (v : ℕ) → p v ≡ true → (xs : List ℕ) → position_or_len (same v) (keep p xs) ≡ length (keep p (take (position_or_len (same v) xs) xs))
position_keep p v pv [] = refl
position_keep p v pv (x ∷ xs) =
    by_same x v
    (λ e. let px : p x ≡ true = ap p e ∙ pv in
    rw (px, same_first v x (keep p xs) e, same_first v x xs e) refl)
    (λ d. by_test (p x)
    (λ y. rw (y, same_later v x (keep p xs) d, same_later v x xs d, y) (ap suc (position_keep p v pv xs)))
    (λ n. rw (n, same_later v x xs d, n) (position_keep p v pv xs)))
