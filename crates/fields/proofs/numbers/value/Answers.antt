-- `fields::numbers::value` meets its contract.
-- Assumes nothing.
use mathlib.Core.Path.{◌≡◌, sym, ap, ◌∙◌}
use Prim.Native.Nat.{◌+◌, ◌*◌, ◌^◌, ◌≤◌, ◌<◌}
use native.Mathlib.Omega.{arith}
use lib.ListN.{get_or}
use Rattle.fields.specs.Numbers.{digit_of}
use Rattle.answers.specs.Refusals.{optional}
use Rattle.fields.proofs.NumberLaws.{digit_within, digit_without, value_turn, value_stop, value_end, more_digits, in_word}
use Rattle.fields.proofs.numbers.value.Goals as goal
use Rattle.fields.proofs.numbers.value.Goals.{In_ok-digit}

-- the byte is a digit of the base
is_digit : (c : In_ok-digit) → (c.in_ok-digit.digit < c.args.base) × (c.in_ok-digit.digit ≡ digit_of (get_or c.args.digits.now c.loop-byte.byte-index 0))
is_digit c =
    let answer = c.in_ok-digit.ensures.value in
    let same = digit_within c.from.result c.args.base c.requires.base_bound.1 answer.0 in
    (omega (arith, answer), answer.1 ∙ sym same ∙ ap digit_of c.from.ensures)

-- so the sum with it fits a word
fits_word : (c : In_ok-digit) → c.loop-byte.value * c.args.base + c.in_ok-digit.digit < 2 ^ 64
fits_word c =
    let l = c.loop-byte in
    in_word l.value _ _ l.byte-index c.requires.base_bound.1 (is_digit c).0 l.invariant.0 (omega arith)

pub returns-in_err-digit : goal.returns-in_err-digit
returns-in_err-digit c =
    let l = c.loop-byte in
    let over = digit_without c.from.result c.args.base c.requires.base_bound.1 (omega (arith, c.in_err-digit.ensures.value)) in
    let here : c.args.base ≤ digit_of (get_or c.args.digits.now l.byte-index 0) = omega (arith, over, ap digit_of c.from.ensures) in
    ap optional c.from_residual.ensures ∙ sym (l.invariant.1 ∙ value_stop c.args.digits.now _ l.value l.byte-index (omega arith) here)

pub overflow_mul-value : goal.overflow_mul-value
overflow_mul-value c = omega (arith, fits_word c)

pub overflow_add-value : goal.overflow_add-value
overflow_add-value c = record { fits = fits_word c }

pub loop-byte-preserved : goal.loop-byte-preserved
loop-byte-preserved c =
    let a = c.args in
    let l = c.loop-byte in
    let d = is_digit c in (
      more_digits l.value a.base _ l.byte-index c.requires.base_bound.1 d.0 l.invariant.0,
      rw d.1 (l.invariant.1 ∙ value_turn a.digits.now a.base l.value l.byte-index (omega arith) (omega (arith, d))),
    )

pub returns : goal.returns
returns c =
    let l = c.loop-byte in
    sym (l.invariant.1 ∙ value_end c.args.digits.now _ l.value l.byte-index (omega arith))
