-- `fields::numbers::key` meets its contract.
-- Assumes nothing.
use borrow.Author.Tests.{eq-eqb, ne_eqb}
use Rattle.fields.specs.Numbers.{key_of}
use Rattle.fields.proofs.numbers.key.Goals as goal

pub returns-then-field-ne16 : goal.returns-then-field-ne16
unfolding key_of
returns-then-field-ne16 c = rw (ne_eqb _ _ c.if-field-ne16.true)

pub returns : goal.returns
unfolding key_of
returns c = rw (eq-eqb _ _ c.if-field-ne16.false) c.value.ensures
