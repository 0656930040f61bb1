-- The answers of the calls that may refuse, by their cases: what a caller needs of them.
-- Assumes nothing.
use mathlib.Core.Path.{◌≡◌}
use Prim.Native.Nat.{ℕ, ◌^◌, ◌≤◌, ◌<◌}
use native.Mathlib.Omega.{arith}
use borrow.Author.Tests.{lt-ltb, le-ltb}
use Rattle.answers.specs.Answers.{refusal, result, after}
use Rattle.lists.proofs.Tests.{by_below}
use Rattle.hashes.specs.declared.ConsistentHashRevIterator.{ConsistentHashRevIterator}
use Rattle.hashes.specs.Hashes.{prev}
use Rattle.hashes.specs.Calls.{limited}
use Rattle.hashes.specs.Walks.{go_on_below, fall}

pub limited_in : {A : Type 0} (n : ℕ) (a : A) → n ≤ 2 ^ 62 → limited n a ≡ result a
unfolding limited
limited_in n a h = rw (le-ltb (2 ^ 62) n h)

pub limited_out : {A : Type 0} (n : ℕ) (a : A) → 2 ^ 62 < n → limited n a ≡ refusal 1
unfolding limited
limited_out n a h = rw (lt-ltb (2 ^ 62) n h)

-- and back: which it was
pub limited_says : {A : Type 0} (n : ℕ) (a b : A) → limited n a ≡ result b → (n ≤ 2 ^ 62) × (b ≡ a)
limited_says n a b e =
    by_below (2 ^ 62) n
    (λ h. let q = limited_out n a h in let z : ◌≡◌ {A = ℕ} 0 1 = cc in absurd (omega arith))
    (λ h. let q = limited_in n a h in (h, cc))

pub limited_refuses : {A : Type 0} (n c : ℕ) (a : A) → limited n a ≡ refusal c → (2 ^ 62 < n) × (c ≡ 1)
limited_refuses n c a e =
    by_below (2 ^ 62) n
    (λ h. let q = limited_out n a h in (h, cc))
    (λ h. let q = limited_in n a h in let z : ◌≡◌ {A = ℕ} 0 1 = cc in absurd (omega arith))

pub fall_in : (w : ConsistentHashRevIterator) → w.n ≤ 2 ^ 62 → fall w ≡ go_on_below w (prev w.state w.n)
unfolding fall
fall_in w h = rw (le-ltb (2 ^ 62) w.n h)

pub fall_out : (w : ConsistentHashRevIterator) → 2 ^ 62 < w.n → fall w ≡ after (refusal 1) w
unfolding fall
fall_out w h = rw (lt-ltb (2 ^ 62) w.n h)
