-- A number that is printed is read back as the same number, and has no leading zero.
-- Assumes nothing.
use mathlib.Core.Path.{◌≡◌, ap, ◌∙◌}
use mathlib.Core.Logic.{◌≢◌}
use mathlib.Core.Bool.{true, false, true≢false}
use mathlib.Core.List.{List, [], ◌∷◌, ◌++◌}
use mathlib.Core.Option.{Option, none, some}
use Prim.Native.Nat.{ℕ, zero, suc, ◌+◌, ◌*◌, ◌/◌, ◌%◌, ◌^◌, ◌<◌}
use native.Mathlib.Omega.{arith}
use borrow.Author.Tests.{lt-ltb}
use lib.Dec.{ltb}
use lib.ListN.{length, get_or, get_or-append}
use Rattle.lists.proofs.Tests.{by_test, by_below}
use Rattle.fields.specs.Numbers.{digit_of, value_of, number_of}
use Rattle.fields.specs.Printing.{decimal_of}
use Rattle.fields.proofs.NumberLaws.{digit_decimal, inside}
use Rattle.fields.proofs.DecimalLaws.{decimal_one, decimal_snoc, decimal_pos, length_decimal}

nothing_read : {A : Type 0} (v : ℕ) → ◌≡◌ {A = Option ℕ} none (some v) → A
nothing_read v e = let z : true ≡ false = cc in absurd (true≢false z)

-- one digit more
value_snoc : (l : List ℕ) (sum v d : ℕ) → value_of 10 sum l ≡ some v → digit_of d < 10 → value_of 10 sum (l ++ (d ∷ [])) ≡ some (v * 10 + digit_of d)
value_snoc [] sum v d e h =
    let q : sum ≡ v = cc in
    rw (lt-ltb (digit_of d) 10 h, q)
value_snoc (b ∷ l) sum v d e h =
    by_test (ltb (digit_of b) 10)
    (λ y. rw y (value_snoc l (sum * 10 + digit_of b) v d (rw y at e) h))
    (λ m. nothing_read v (rw m at e))

digit_of_lem : (m : ℕ) → m < 10 → digit_of (48 + m) ≡ m
digit_of_lem m h = digit_decimal (48 + m) (omega arith) (omega arith) ∙ omega arith

value_one : (n : ℕ) → n < 10 → value_of 10 0 (decimal_of n) ≡ some n
value_one n y =
    let e : 0 * 10 + n ≡ n = omega arith in
    rw (decimal_one n y, digit_of_lem n y, lt-ltb n 10 y) (ap some e)

decimal_value : (f n : ℕ) → n < 10 ^ f → n < 10 ^ 10 → value_of 10 0 (decimal_of n) ≡ some n
decimal_value zero n h k = value_one n (omega arith)
decimal_value (suc f) n h k =
    by_below n 10
    (value_one n)
    (λ m.
    let last : digit_of (48 + n % 10) ≡ n % 10 = digit_of_lem (n % 10) (omega arith) in
    let e : n / 10 * 10 + digit_of (48 + n % 10) ≡ n = omega (arith, last) in
    rw (decimal_snoc n m k) (value_snoc (decimal_of (n / 10)) 0 (n / 10) (48 + n % 10) (decimal_value f (n / 10) (omega arith) (omega arith)) (omega (arith, last)) ∙ ap some e))

-- a number of 32 bits, printed and read
pub number_again : (n : ℕ) → n < 2 ^ 32 → number_of (decimal_of n) ≡ some n
unfolding number_of
number_again n h =
    rw (inside 1 10 (length (decimal_of n)) (decimal_pos n) (length_decimal n), decimal_value 10 n (omega arith) (omega arith), lt-ltb n (2 ^ 32) h)

-- "without leading zeros"
first_digit : (f n : ℕ) → n < 10 ^ f → n < 10 ^ 10 → 0 < n → get_or (decimal_of n) 0 0 ≢ 48
first_digit zero n h k p = absurd (omega arith)
first_digit (suc f) n h k p =
    by_below n 10
    (λ y. rw (decimal_one n y) (λ e. omega arith))
    (λ m.
    rw (decimal_snoc n m k, get_or-append (decimal_of (n / 10)) ((48 + n % 10) ∷ []) 0 0 (decimal_pos (n / 10)))
    (first_digit f (n / 10) (omega arith) (omega arith) (omega arith)))

pub no_leading_zero : (n : ℕ) → 0 < n → n < 2 ^ 32 → get_or (decimal_of n) 0 0 ≢ 48
no_leading_zero n p h = first_digit 10 n (omega arith) (omega arith) p
