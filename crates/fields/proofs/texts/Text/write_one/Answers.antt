-- `fields::texts::Text::write_one` meets its contract.
-- Assumes nothing.
use native.Mathlib.Omega.{arith}
use Rattle.fields.proofs.DecimalLaws.{length_tabbed}
use Rattle.fields.proofs.PutLaws.{put_then}
use Rattle.fields.proofs.texts.Text.write_one.Goals as goal

pub write_byte-requires : goal.write_byte-requires
write_byte-requires c = let a = c.args in omega (arith, length_tabbed a.n)

pub returns-clause-puts : goal.returns-clause-puts
returns-clause-puts c = put_then (put_then c.write.ensures.puts c.write_tabbed.ensures.puts) c.write_byte.ensures.puts
