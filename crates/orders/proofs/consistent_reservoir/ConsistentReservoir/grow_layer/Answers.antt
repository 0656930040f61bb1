-- `orders::consistent_reservoir::ConsistentReservoir::grow_layer` meets its contract.
-- Assumes nothing.
use mathlib.Core.Path.{◌≡◌, sym, ◌∙◌}
use mathlib.Core.Bool.{true}
use native.Mathlib.Omega.{arith}
use Rattle.orders.specs.ReservoirCalls.{fitting}
use Rattle.orders.proofs.CheckLaws.{fits_parts}
use Rattle.orders.proofs.AdmitLaws.{grow_unfit, grow_seven, grow_eight, grow_raised}
use Rattle.orders.proofs.consistent_reservoir.ConsistentReservoir.grow_layer.Goals as goal
use Rattle.orders.proofs.consistent_reservoir.ConsistentReservoir.grow_layer.Goals.{Else-not-fits}

ok : (c : Else-not-fits) → fitting c.args.self.now c.args.list.now ≡ true
ok c = sym c.fits.ensures ∙ c.if-not-fits.false

pub returns-then-not-fits : goal.returns-then-not-fits
returns-then-not-fits c = grow_unfit _ _ (sym c.fits.ensures ∙ c.if-not-fits.true)

pub returns-then-self : goal.returns-then-self
returns-then-self c = grow_seven _ _ (ok (goal.at.returns-then-self c).Else-not-fits) c.if-self.true

pub returns-then-self-eq-LAYER_LIMIT : goal.returns-then-self-eq-LAYER_LIMIT
returns-then-self-eq-LAYER_LIMIT c = grow_eight _ _ (ok (goal.at.returns-then-self-eq-LAYER_LIMIT c).Else-not-fits) c.if-self.false c.if-self-eq-LAYER_LIMIT.true

pub raise-requires-clause-fit : goal.raise-requires-clause-fit
raise-requires-clause-fit c = ok (goal.at.raise-requires-clause-fit c).Else-not-fits

pub raise-requires-clause-layer : goal.raise-requires-clause-layer
raise-requires-clause-layer c =
    omega (arith, (fits_parts _ _ (ok (goal.at.raise-requires-clause-layer c).Else-not-fits)).shape.j_low, c.if-self-eq-LAYER_LIMIT.false)

pub returns : goal.returns
returns c =
    c.raise.ensures ∙ grow_raised _ _ (ok (goal.at.returns c).Else-not-fits) c.if-self.false c.if-self-eq-LAYER_LIMIT.false
