-- Document 01, "A plan call, followed downwards", **Chooser**, sentence by sentence.
-- Assumes nothing.
use Rattle.std.specs.Prelude.{cond, ◌||◌, List, [], ◌∷◌, ◌++◌, map, ℕ, zero, suc, ◌+◌, ◌-◌, max, ltb, eqb, length, get_or, set}
use Rattle.lists.specs.Lists.{zero_to, last, lacked}
use Rattle.hashes.specs.Hashes.{feed}
use Rattle.hashes.specs.Calls.{prev_number}

-- "g(i, n) = i + prev of n−i under state mix(s xor i)." It is asked only for i below n, where prev is a number.
unfoldable pub g : ℕ → ℕ → ℕ → ℕ
g s i n = i + prev_number (feed s i) (n - i)

-- "the largest g(i, n) for i below k"; 0 for k 0
unfoldable pub largest_g : ℕ → ℕ → ℕ → ℕ
largest_g s zero n = 0
largest_g s (suc k) n = max (largest_g s k n) (g s k n)

-- "S(0, n) is empty; S(k, n) is b, the largest g(i, n) for i below k, with S(k−1, b)." "Samples lie ascending", so b is the
-- last of them.
unfoldable pub S : ℕ → ℕ → ℕ → List ℕ
S s zero n = []
S s (suc k) n =
    let b = largest_g s (suc k) n in
    S s k b ++ (b ∷ [])

-- "The choice order Q(n) has as t-th number the member of S(t, n) that S(t−1, n) lacks." Here t counts from 0.
unfoldable pub Q : ℕ → ℕ → List ℕ
Q s n = map (λ t. lacked (S s (suc t) n) (S s t n)) (zero_to n)

-- ---- samples in a list, whether they are an S(k, n) or not

-- samples, and the index that a step on them answers
pub record Moved : Type 0 where
  pub samples : List ℕ
  pub index : ℕ

abbrev pub moved : List ℕ → ℕ → Moved
moved l i = record { samples = l; index = i }

-- "it becomes the larger of the sample before it, if any, and g(i, m)": what the sample at index i becomes
unfoldable pub larger : ℕ → List ℕ → ℕ → ℕ → ℕ
larger s l zero m = g s zero m
larger s l (suc i) m = max (get_or l i 0) (g s (suc i) m)

-- "from the last sample (index i) down, while it is not below m, it becomes .., and m becomes that; the answer is the index above
-- the first sample found below m, else 0": of the first so many samples
unfoldable pub lower_at : ℕ → ℕ → List ℕ → ℕ → Moved
lower_at s zero l m = moved l 0
lower_at s (suc i) l m =
    let x = larger s l i m in
    cond (ltb (get_or l i 0) m) (moved l (suc i)) (lower_at s i (set l i x) x)

-- "To lower from m"
unfoldable pub lower : ℕ → List ℕ → ℕ → Moved
lower s l m = lower_at s (length l) l m

-- "Shrink sets n to the last sample and lowers from it."
unfoldable pub shrink : ℕ → List ℕ → Moved
shrink s l = lower s l (last l)

-- "Grow appends g(k, n) and answers k if that is above the last sample or k is 0; else it lowers from the last, then appends the
-- old last."
unfoldable pub grow : ℕ → List ℕ → ℕ → Moved
grow s l n =
    let x = g s (length l) n in
    let down = lower s l (last l) in
    cond (eqb (length l) 0 || ltb (last l) x)
    (moved (l ++ (x ∷ [])) (length l))
    (moved (down.samples ++ (last l ∷ [])) down.index)
