-- The one test of what belongs to the sample, `counts`, in facts. No other law looks inside it, and no other law says what passes it.
-- Assumes nothing.
use mathlib.Core.Path.{◌≡◌, refl, ap}
use mathlib.Core.Bool.{Bool, true, false}
use mathlib.Core.List.{List}
use Prim.Native.Nat.{ℕ, ◌≤◌, ◌<◌}
use lib.Dec.{ltb}
use Rattle.lists.specs.Lists.{keep, below}
use Rattle.lists.proofs.Tests.{below_yes, below_no, below→lt, not_below→le}
use Rattle.lists.proofs.Keeping.{Stronger, below_below}
use Rattle.orders.specs.Reservoirs.{counts}

pub counts_yes : (x n : ℕ) → x < n → counts n x ≡ true
unfolding counts
counts_yes x n h = below_yes x n h

pub counts_no : (x n : ℕ) → n ≤ x → counts n x ≡ false
unfolding counts
counts_no x n h = below_no x n h

pub counts→lt : {x n : ℕ} → counts n x ≡ true → x < n
unfolding counts
counts→lt e = below→lt e

pub not_counts→le : {x n : ℕ} → counts n x ≡ false → n ≤ x
unfolding counts
not_counts→le e = not_below→le e

-- as a pass over numbers asks it
pub counts_ltb : (n x : ℕ) → counts n x ≡ ltb x n
unfolding counts below
counts_ltb n x = refl

-- what belongs to the sample at n does at every larger number
pub counts_more : {n m : ℕ} → n ≤ m → Stronger (counts n) (counts m)
unfolding counts
counts_more h = below_below h

-- against a bound from n up
pub counts_below : {n m : ℕ} → n ≤ m → Stronger (counts n) (below m)
unfolding counts
counts_below h = below_below h

-- "the list's numbers below n": what belongs to the sample is what P(n) keeps
pub counts_is : (n : ℕ) → counts n ≡ below n
unfolding counts
counts_is n = refl

pub keep_counts : (n : ℕ) (xs : List ℕ) → keep (counts n) xs ≡ keep (below n) xs
keep_counts n xs = ap (λ (p : ℕ → Bool). keep p xs) (counts_is n)
