-- The layer of n: the lowest layer that holds n, found from the count of leading zeros.
-- Assumes nothing.
use mathlib.Core.Path.{◌≡◌, sym, ap, ◌∙◌}
use Prim.Native.Nat.{ℕ, zero, suc, ◌+◌, ◌-◌, ◌/◌, ◌^◌, ◌≤◌, ◌<◌, zero-le}
use native.Mathlib.Nat.{pow-le-pow_right}
use native.Mathlib.Numerals.{add-one}
use native.Mathlib.Omega.{arith}
use lib.Count.{count_leading_zeros, leading_top}
use lib.Pow.{pow-add}
use borrow.Author.Tests.{le-leb, lt-leb}
use Rattle.lists.proofs.Numbers.{four_pow}
use Rattle.lists.proofs.Tests.{below_yes, below_no, by_below, by_three}
use Rattle.layers.specs.Layer.{size}
use Rattle.orders.specs.Orders.{halvings, log2, layer_of}

pub size_suc : (j : ℕ) → size j ≡ 4 ^ suc j
size_suc j = ap (λ (i : ℕ). 4 ^ i) (add-one j)

halvings_lt : (f a : ℕ) → a < 2 ^ f → a < 2 ^ suc (halvings f a)
halvings_lt zero a h = omega arith
halvings_lt (suc f) a h =
    by_below a 2
    (λ l. rw (below_yes a 2 l) l)
    (λ l. rw (below_no a 2 l) (omega (arith, halvings_lt f (a / 2) (omega arith))))

halvings_le : (f a : ℕ) → 0 < a → 2 ^ halvings f a ≤ a
halvings_le zero a h = omega arith
halvings_le (suc f) a h =
    by_below a 2
    (λ l. rw (below_yes a 2 l) h)
    (λ l. let e : 2 ^ suc (halvings f (a / 2)) ≤ a = omega (arith, halvings_le f (a / 2) (omega arith)) in rw (below_no a 2 l) e)

lt_pow : (a : ℕ) → a < 2 ^ a
lt_pow zero = omega arith
lt_pow (suc a) = omega (arith, lt_pow a)

log2_lt : (a : ℕ) → a < 2 ^ suc (log2 a)
unfolding log2
log2_lt a = halvings_lt a a (lt_pow a)

log2_le : (a : ℕ) → 0 < a → 2 ^ log2 a ≤ a
unfolding log2
log2_le a h = halvings_le a a h

-- the logarithm is known by its bounds
log2_unique : (a j : ℕ) → 2 ^ j ≤ a → a < 2 ^ suc j → log2 a ≡ j
log2_unique a j l u =
    by_three (log2 a) j
    (λ h. absurd (omega (arith, log2_lt a, pow-le-pow_right {n = 2} (omega arith) {i = suc (log2 a)} {j = j} h)))
    (λ e. e)
    (λ h. absurd (omega (arith, log2_le a (omega (arith, pow-le-pow_right {n = 2} (omega arith) {i = 0} {j = j} zero-le)), pow-le-pow_right {n = 2} (omega arith) {i = suc j} {j = log2 a} h)))

-- and by the count of leading zeros among w bits
pub log2_leading : (w a : ℕ) → 0 < a → a < 2 ^ w → log2 a + count_leading_zeros w a + 1 ≡ w
log2_leading w a h l =
    let r : (j : ℕ) × (count_leading_zeros w a + suc j ≡ w) × (2 ^ j ≤ a) × (a < 2 ^ suc j) = leading_top w a h l in
    omega (arith, r.1, log2_unique a r.0 r.2 r.3)

pub layer_low : (n : ℕ) → n ≤ 1 → layer_of n ≡ 0
unfolding layer_of
layer_low n h = rw (le-leb n 1 h)

pub layer_two : (n : ℕ) → 1 < n → layer_of n ≡ log2 (n - 1) / 2
unfolding layer_of
layer_two n h = rw (lt-leb n 1 h)

pow_four : (m : ℕ) → 4 ^ m ≡ 2 ^ (m + m)
pow_four m = four_pow m ∙ sym (pow-add 2 m m)

-- the layer of n holds n
pub layer_fits : (n : ℕ) → n ≤ 4 ^ suc (layer_of n)
layer_fits n =
    by_below 1 n
    (λ l. rw (layer_two n l) (omega (
      arith,
      log2_lt (n - 1),
      pow_four (suc (log2 (n - 1) / 2)),
      pow-le-pow_right {n = 2} (omega arith) {i = suc (log2 (n - 1))} {j = suc (log2 (n - 1) / 2) + suc (log2 (n - 1) / 2)} (omega arith),
    )))
    (λ l. rw (layer_low n l) (omega arith))

-- and no lower one does
pub layer_least : (n j : ℕ) → n ≤ 4 ^ suc j → layer_of n ≤ j
layer_least n j h =
    by_below 1 n
    (λ l. rw (layer_two n l) (by_below j (log2 (n - 1) / 2)
    (λ u. absurd (omega (arith, log2_le (n - 1) (omega arith), pow_four (suc j), pow-le-pow_right {n = 2} (omega arith) {i = suc j + suc j} {j = log2 (n - 1)} (omega arith))))
    (λ u. u)))
    (λ l. rw (layer_low n l) (omega arith))

pub layer_in : (n : ℕ) → n ≤ 2 ^ 30 → layer_of n ≤ 14
layer_in n h = layer_least n 14 h

-- so n reaches past the layer below
pub layer_quarter : (n : ℕ) → 0 < n → 4 ^ layer_of n ≤ n
layer_quarter n h = go (layer_of n) (layer_least n)
  where
    go : (j : ℕ) → ((i : ℕ) → n ≤ 4 ^ suc i → j ≤ i) → 4 ^ j ≤ n
    go zero f = omega arith
    go (suc j) f = by_below n (4 ^ suc j) (λ l. absurd (omega (arith, f j (omega arith)))) (λ l. l)

-- layers up to 14 have at most 2^30 numbers
pub size_limit : (j : ℕ) → j ≤ 14 → 4 ^ suc j ≤ 4 ^ 15
size_limit j h = pow-le-pow_right {n = 4} (omega arith) {i = suc j} {j = 15} (omega arith)

pub size_in : (j : ℕ) → j < 15 → size j ≤ 4 ^ 15
size_in j h = rw (size_suc j) (size_limit j (omega arith))

pub pow_up : (i j : ℕ) → i ≤ j → 4 ^ i ≤ 4 ^ j
pow_up i j h = pow-le-pow_right {n = 4} (omega arith) {i = i} {j = j} h
