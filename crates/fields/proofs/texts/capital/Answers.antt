-- `fields::texts::capital` meets its contract.
-- Assumes nothing.
use borrow.Author.Tests.{lt-ltb, le-ltb}
use native.Mathlib.Omega.{arith}
use Rattle.fields.specs.Printing.{capital_digit}
use Rattle.fields.proofs.texts.capital.Goals as goal

pub returns-then-digit-lt10 : goal.returns-then-digit-lt10
unfolding capital_digit
returns-then-digit-lt10 c = rw (lt-ltb c.args.digit 10 c.if-digit-lt10.true)

pub returns-else-digit-lt10 : goal.returns-else-digit-lt10
unfolding capital_digit
returns-else-digit-lt10 c = rw (le-ltb c.args.digit 10 c.if-digit-lt10.false) (omega arith)
