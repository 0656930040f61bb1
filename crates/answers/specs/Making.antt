-- Calls that make a record of k of n: the tests of the two numbers, and what is refused where lent memory is too short.
-- Assumes nothing.
use Rattle.std.specs.Prelude.{cond, ℕ, ltb}

-- "1 n above 2^30 (orders, reservoirs, rounds) or 2^62 (hashes, choosers). 2 k is 0 (reservoir, round). 3 k above n", in this order: with n
-- up to `limit` and k from `least` on, what `refuse` makes of the first of them that is so, or a.
abbrev pub by_sizes : {A : Type 0} → ℕ → ℕ → ℕ → ℕ → (ℕ → A) → A → A
by_sizes limit least k n refuse a = cond (ltb limit n) (refuse 1) (cond (ltb k least) (refuse 2) (cond (ltb n k) (refuse 3) a))

-- 4 comes after them: "a lent list shorter than what must be written"
abbrev pub short_refusal : ℕ → ℕ → ℕ → ℕ → ℕ
short_refusal limit least k n = by_sizes limit least k n (λ w. w) 4
