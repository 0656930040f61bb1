-- Prev of n, as the crates above use it: a hash below n, with no hash between, so the same for every m down to just above it.
-- Assumes nothing.
use mathlib.Core.Path.{◌≡◌, sym, ◌∙◌}
use mathlib.Core.Bool.{true, false}
use mathlib.Core.Option.{some}
use Prim.Native.Nat.{ℕ, suc, ◌≤◌, ◌<◌}
use native.Mathlib.Omega.{arith}
use Rattle.lists.specs.Lists.{keep, below, occurrences}
use Rattle.lists.proofs.Tests.{below_yes, below_no, below→lt, by_below}
use Rattle.lists.proofs.Members.{has_yes, has→occurrences, not_has→occurrences, occurrences_keep_yes, keep_passes, keep_within, keep_agree}
use Rattle.lists.proofs.Extremes.{Extreme, AtMost, by_max, pick_is, pick_extreme, picked_within}
use Rattle.hashes.specs.Hashes.{hashes, is_hash, prev}
use Rattle.hashes.specs.Calls.{prev_number}
use Rattle.hashes.proofs.PrevLaws.{prev_is}

pub hash_occurrences : (s x : ℕ) → is_hash s x ≡ true → 0 < occurrences x (hashes s)
unfolding is_hash
hash_occurrences s x e = has→occurrences x (hashes s) e

pub occurrences_hash : (s x : ℕ) → 0 < occurrences x (hashes s) → is_hash s x ≡ true
unfolding is_hash
occurrences_hash s x h = has_yes x (hashes s) h

pub no_hash_occurrences : (s x : ℕ) → is_hash s x ≡ false → occurrences x (hashes s) ≡ 0
unfolding is_hash
no_hash_occurrences s x e = not_has→occurrences x (hashes s) e

-- what prev of n is makes it prev of n
prev_when : (s n x : ℕ) → is_hash s x ≡ true → x < n → ((z : ℕ) → is_hash s z ≡ true → z < n → z ≤ x) → prev s n ≡ some x
unfolding prev
prev_when s n x h l m =
    pick_is by_max (keep (below n) (hashes s)) x (record {
      there = omega (arith, occurrences_keep_yes (below n) x (hashes s) (below_yes x n l), hash_occurrences s x h);
      best = λ z p. m z (occurrences_hash s z (keep_within (below n) z (hashes s) p)) (below→lt (keep_passes (below n) z (hashes s) p));
    })

extreme : (s n : ℕ) → 0 < n → Extreme AtMost (keep (below n) (hashes s)) (prev_number s n)
unfolding prev
extreme s n h = pick_extreme by_max (keep (below n) (hashes s)) (prev_number s n) (prev_is s n h)

-- it is below n
pub prev_below : (s n : ℕ) → 0 < n → prev_number s n < n
prev_below s n h = below→lt (keep_passes (below n) (prev_number s n) (hashes s) (extreme s n h).there)

-- it is a hash
pub prev_is_hash : (s n : ℕ) → 0 < n → is_hash s (prev_number s n) ≡ true
unfolding prev
prev_is_hash s n h = occurrences_hash s (prev_number s n) (picked_within by_max (below n) (hashes s) (prev_number s n) (prev_is s n h))

-- no hash lies between it and n
pub prev_between : (s n x : ℕ) → is_hash s x ≡ true → x < n → x ≤ prev_number s n
prev_between s n x e l =
    (extreme s n (omega arith)).best x (omega (arith, occurrences_keep_yes (below n) x (hashes s) (below_yes x n l), hash_occurrences s x e))

-- for every m above it, up to n, it is prev of m too
pub prev_same : (s m n : ℕ) → 0 < m → m ≤ n → prev_number s n < m → prev_number s m ≡ prev_number s n
prev_same s m n h l p =
    let e : prev s m ≡ some (prev_number s n) = prev_when s m (prev_number s n) (prev_is_hash s n (omega arith)) p (λ z q r. prev_between s n z q (omega arith)) in
    let f : prev s m ≡ some (prev_number s m) = prev_is s m h in
    cc

-- ---- by one number more

pub prev_suc_yes : (s n : ℕ) → is_hash s n ≡ true → prev s (suc n) ≡ some n
prev_suc_yes s n e = prev_when s (suc n) n e (omega arith) (λ z q r. omega arith)

pub prev_suc_no : (s n : ℕ) → is_hash s n ≡ false → prev s (suc n) ≡ prev s n
unfolding prev
prev_suc_no s n e =
    let same : keep (below (suc n)) (hashes s) ≡ keep (below n) (hashes s) = keep_agree (below (suc n)) (below n) (hashes s) (λ z p.
    by_below z n
    (λ l. below_yes z (suc n) (omega arith) ∙ sym (below_yes z n l))
    (λ l. by_below n z
    (λ g. below_no z (suc n) (omega arith) ∙ sym (below_no z n l))
    (λ g. let q : z ≡ n = omega arith in absurd (omega (arith, no_hash_occurrences s n e, rw q at p))))) in
    rw same
