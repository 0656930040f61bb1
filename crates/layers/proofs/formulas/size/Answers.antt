-- `layers::formulas::size` meets its contract.
-- Assumes nothing.
use Rattle.layers.proofs.FormulaLaws.{size_shl}
use Rattle.layers.proofs.formulas.size.Goals as goal

pub returns : goal.returns
returns c = rw c.bits.ensures (size_shl c.args.layer c.requires)
