-- `orders::consistent_reservoir::ConsistentReservoir::fits` meets its contract.
-- Assumes nothing.
use mathlib.Core.Path.{ap, ◌∙◌}
use Rattle.std.specs.Option.{is_some}
use Rattle.orders.proofs.CheckLaws.{checked_some}
use Rattle.orders.proofs.consistent_reservoir.ConsistentReservoir.fits.Goals as goal

pub returns : goal.returns
returns c = c.is_some.ensures ∙ ap is_some c.checked.ensures ∙ checked_some _ _
