-- `fields::numbers::number` meets its contract.
-- Assumes nothing.
use mathlib.Core.Path.{sym, ap, ◌∙◌}
use borrow.Author.Tests.{eqb-true, eqb-false}
use Prim.Native.Nat.{◌≤◌}
use native.Mathlib.Omega.{arith}
use lib.ListN.{length}
use Rattle.fields.specs.Numbers.{number_of, below32}
use Rattle.answers.specs.Refusals.{optional}
use Rattle.fields.proofs.NumberLaws.{inside, under, over, narrowed}
use Rattle.fields.proofs.numbers.number.Goals as goal
use Rattle.fields.proofs.numbers.number.Goals.{Else-is_empty, then-is_empty-via-then-is_empty, then-is_empty-via-else-is_empty+then-field-gt10}

pub returns-then-is_empty : goal.returns-then-is_empty
unfolding number_of
returns-then-is_empty c = elim c.then-is_empty.branch [
  | then-is_empty-via-then-is_empty w ↦ rw (under 1 10 (length c.args.field.now) (omega (arith, eqb-true (length c.args.field.now) 0 (sym w.if-is_empty.ensures))))
  | then-is_empty-via-else-is_empty+then-field-gt10 w ↦ rw (over 1 10 (length c.args.field.now) w.if-field-gt10.true)
]

-- a field that is not empty
some_digit : (c : Else-is_empty) → 1 ≤ length c.args.field.now
some_digit c = omega (arith, eqb-false (length c.args.field.now) 0 (sym c.if-is_empty.ensures))

pub returns-in_err-value : goal.returns-in_err-value
unfolding number_of
returns-in_err-value c =
    rw (inside 1 10 (length c.args.field.now) (some_digit (goal.at.returns-in_err-value c).Else-is_empty) c.if-field-gt10.false) (ap optional c.from_residual.ensures ∙ ap below32 c.in_err-value.ensures)

pub returns : goal.returns
unfolding number_of
returns c =
    rw (inside 1 10 (length c.args.field.now) (some_digit (goal.at.returns c).Else-is_empty) c.if-field-gt10.false)
    (ap optional c.ok.ensures.value ∙ narrowed _ _ c.try_from.ensures ∙ ap below32 c.in_ok-value.ensures)
