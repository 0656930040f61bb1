-- Laws of a number read digit by digit. The loop over digits has a law for a turn (`value_turn`), for a way out (`value_stop`) and for
-- the end (`value_end`), each on what is left of a list at i.
-- Assumes nothing.
use mathlib.Core.Path.{◌≡◌}
use mathlib.Core.Bool.{true, false, and-false}
use mathlib.Core.List.{List, ◌∷◌}
use mathlib.Core.Option.{none, some}
use Rattle.std.specs.Prelude.{Result, Ok, Err}
use Rattle.std.specs.Result.{OkIff, result_ok}
use Rattle.answers.specs.Refusals.{optional}
use Prim.Native.Nat.{ℕ, ◌+◌, ◌-◌, ◌*◌, ◌^◌, ◌≤◌, ◌<◌}
use native.Mathlib.Nat.{pow-le-pow_right, mul-le-mul_left}
use native.Mathlib.Numerals.{add-one}
use native.Mathlib.Omega.{arith}
use borrow.Author.Tests.{lt-ltb, le-ltb, le-leb, lt-leb}
use lib.Dec.{leb}
use lib.ListN.{length, get_or, drop, drop_of_length-le}
use lib.Seq.{drop-cons}
use Rattle.std.specs.Char.{digit_value}
use Rattle.std.proofs.lemmas.Bool.Decides.{nat_tests}
use Rattle.fields.specs.Numbers.{within, digit_of, value_of, below32}

-- what is left at i: the byte there, and what is left after it
left : (l : List ℕ) (i : ℕ) → i < length l → drop i l ≡ get_or l i 0 ∷ drop (i + 1) l
left l i h = rw (add-one, drop-cons l i 0 h)

-- a byte by its range
pub inside : (a e b : ℕ) → a ≤ b → b ≤ e → within a e b ≡ true
unfolding within
inside a e b p q = rw (le-leb a b p, le-leb b e q)

pub under : (a e b : ℕ) → b < a → within a e b ≡ false
unfolding within
under a e b p = rw (lt-leb a b p)

pub over : (a e b : ℕ) → e < b → within a e b ≡ false
unfolding within
over a e b p = rw (lt-leb b e p) (and-false (leb a b))

-- a number that a narrower type takes, or not
pub narrowed : {E : Type 0} (v : ℕ) (r : Result ℕ E) → OkIff r (v < 2 ^ 32) v → optional (result_ok r) ≡ below32 (some v)
narrowed v (Ok x) h = rw (lt-ltb v (2 ^ 32) h.0, h.1)
narrowed v (Err e) h = rw (le-ltb v (2 ^ 32) (omega (arith, h)))

module _ (b : ℕ) where
  pub digit_decimal : 48 ≤ b → b ≤ 57 → digit_of b ≡ b - 48
  unfolding digit_of
  digit_decimal p q = rw (inside 48 57 b p q)

  -- std's digit is the same below 16, where it is none
  pub digit_within : (base : ℕ) → base ≤ 16 → digit_value b < base → digit_of b ≡ digit_value b
  unfolding digit_of within
  digit_within base h d = grind (arith, nat_tests)

  pub digit_without : (base : ℕ) → base ≤ 16 → base ≤ digit_value b → base ≤ digit_of b
  unfolding digit_of within
  digit_without base h d = grind (arith, nat_tests)

module _ (l : List ℕ) (base sum i : ℕ) where
  pub value_turn : i < length l → digit_of (get_or l i 0) < base → value_of base sum (drop i l) ≡ value_of base (sum * base + digit_of (get_or l i 0)) (drop (i + 1) l)
  value_turn p e = rw (left l i p, lt-ltb (digit_of (get_or l i 0)) base e)

  pub value_stop : i < length l → base ≤ digit_of (get_or l i 0) → value_of base sum (drop i l) ≡ none
  value_stop p e = rw (left l i p, le-ltb (digit_of (get_or l i 0)) base e)

  pub value_end : length l ≤ i → value_of base sum (drop i l) ≡ some sum
  value_end p = rw (drop_of_length-le l p)

-- one digit more stays below the next power of 16, and that within a word
module _ (sum base d i : ℕ) (b : base ≤ 16) (h : d < base) (s : sum < 16 ^ i) where
  pub more_digits : sum * base + d < 16 ^ (i + 1)
  more_digits = rw add-one (omega (arith, mul-le-mul_left sum b))

  pub in_word : i < 16 → sum * base + d < 2 ^ 64
  in_word l = omega (arith, more_digits, pow-le-pow_right {n = 16} (omega arith) {i = i + 1} {j = 16} (omega arith))
