-- `orders::layer::Layer::quarter` meets its contract.
-- Assumes nothing.
use Rattle.orders.proofs.DescentLaws.{quarter_shl}
use Rattle.orders.proofs.layer.Layer.quarter.Goals as goal

pub returns : goal.returns
returns c = quarter_shl c.args.self.number c.args.self.below
