-- `fields::texts::Text::three_from` meets its contract.
-- Assumes nothing.
use native.Mathlib.Omega.{arith}
use borrow.Author.Rules.{rules}
use Rattle.fields.proofs.DecimalLaws.{length_decimal, length_tabbed}
use Rattle.fields.proofs.PutLaws.{put_then}
use Rattle.fields.proofs.texts.Text.three_from.Goals as goal

pub write_tabbed-requires : goal.write_tabbed-requires
write_tabbed-requires c = let a = c.args in omega (arith, length_decimal a.a)

pub write_tabbed-requires-2 : goal.write_tabbed-requires-2
write_tabbed-requires-2 c = let a = c.args in omega (arith, length_decimal a.a, length_tabbed a.b)

pub write_byte-requires : goal.write_byte-requires
write_byte-requires c = let a = c.args in omega (arith, length_decimal a.a, length_tabbed a.b, length_tabbed a.c)

pub returns-clause-puts : goal.returns-clause-puts
returns-clause-puts c =
    let all =
    put_then (put_then (put_then c.write_number.ensures.puts c.write_tabbed.ensures.puts) c.write_tabbed-2.ensures.puts) c.write_byte.ensures.puts in
    search rules
