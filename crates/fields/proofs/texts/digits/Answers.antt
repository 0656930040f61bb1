-- `fields::texts::digits` meets its contract.
-- Assumes nothing.
use mathlib.Core.Path.{sym, ap}
use native.Mathlib.Omega.{arith}
use lib.ListN.{length}
use Rattle.fields.proofs.DecimalLaws.{decimal_one, length_decimal_is}
use Rattle.fields.proofs.texts.digits.Goals as goal

pub returns-in-0-to-9-clause-count : goal.returns-in-0-to-9-clause-count
returns-in-0-to-9-clause-count c = sym (ap length (decimal_one _ (omega arith)))

pub returns-in-10-to-99-clause-count : goal.returns-in-10-to-99-clause-count
returns-in-10-to-99-clause-count c = sym (length_decimal_is 1 _ (omega arith) (omega arith) (omega arith))

pub returns-in-100-to-999-clause-count : goal.returns-in-100-to-999-clause-count
returns-in-100-to-999-clause-count c = sym (length_decimal_is 2 _ (omega arith) (omega arith) (omega arith))

pub returns-in-1000-to-9999-clause-count : goal.returns-in-1000-to-9999-clause-count
returns-in-1000-to-9999-clause-count c = sym (length_decimal_is 3 _ (omega arith) (omega arith) (omega arith))

pub returns-in-10000-to-99999-clause-count : goal.returns-in-10000-to-99999-clause-count
returns-in-10000-to-99999-clause-count c = sym (length_decimal_is 4 _ (omega arith) (omega arith) (omega arith))

pub returns-in-100000-to-999999-clause-count : goal.returns-in-100000-to-999999-clause-count
returns-in-100000-to-999999-clause-count c = sym (length_decimal_is 5 _ (omega arith) (omega arith) (omega arith))

pub returns-in-1000000-to-9999999-clause-count : goal.returns-in-1000000-to-9999999-clause-count
returns-in-1000000-to-9999999-clause-count c = sym (length_decimal_is 6 _ (omega arith) (omega arith) (omega arith))

pub returns-in-10000000-to-99999999-clause-count : goal.returns-in-10000000-to-99999999-clause-count
returns-in-10000000-to-99999999-clause-count c = sym (length_decimal_is 7 _ (omega arith) (omega arith) (omega arith))

pub returns-in-100000000-to-999999999-clause-count : goal.returns-in-100000000-to-999999999-clause-count
returns-in-100000000-to-999999999-clause-count c = sym (length_decimal_is 8 _ (omega arith) (omega arith) (omega arith))

pub returns-in_default-clause-count : goal.returns-in_default-clause-count
returns-in_default-clause-count c = sym (length_decimal_is 9 _ (omega arith) (omega arith) (omega arith))
