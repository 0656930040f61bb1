-- `orders::layer::Layer::size` meets its contract.
-- Assumes nothing.
use Rattle.layers.proofs.FormulaLaws.{size_shl}
use Rattle.orders.proofs.layer.Layer.size.Goals as goal

pub returns : goal.returns
returns c = size_shl c.args.self.number c.args.self.below
