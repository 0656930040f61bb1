-- `orders::consistent_reservoir::ConsistentReservoir::next` meets its contract.
-- Assumes nothing.
use mathlib.Core.Path.{◌∙◌}
use native.Mathlib.Omega.{arith}
use Rattle.std.proofs.lemmas.Result.{err_from_is_err_and}
use Rattle.orders.proofs.CheckLaws.{fits_parts, checked_no, checked_yes}
use Rattle.orders.proofs.WideLaws.{found_none}
use Rattle.orders.proofs.AdmitLaws.{admit_unfit, admit_longer, admit_none, admit_grown}
use Rattle.orders.proofs.consistent_reservoir.ConsistentReservoir.next.Goals as goal

pub returns-in_default : goal.returns-in_default
returns-in_default c = admit_unfit _ _ (checked_no _ _ c.in_default.ensures)

pub admit_here-requires-clause-fit : goal.admit_here-requires-clause-fit
admit_here-requires-clause-fit c = (checked_yes _ _ _ c.in-Some.ensures).0

pub admit_here-requires-clause-low : goal.admit_here-requires-clause-low
admit_here-requires-clause-low c = (checked_yes _ _ _ c.in-Some.ensures).1

pub returns-then-self : goal.returns-then-self
returns-then-self c = c.admit_here.ensures ∙ admit_longer _ _ (checked_yes _ _ _ c.in-Some.ensures).0 c.if-self.true

pub invariant_of-layer : goal.invariant_of-layer
invariant_of-layer c = record { below = omega (arith, (fits_parts _ _ (checked_yes _ _ _ c.in-Some.ensures).0).shape.j_low) }

pub returns-in_default-wider_than : goal.returns-in_default-wider_than
returns-in_default-wider_than c =
    admit_none _ _ (checked_yes _ _ _ c.in-Some.ensures).0 c.if-self.false (found_none _ _ _ c.in_default-wider_than.ensures)

pub admit_above-requires-clause-fit : goal.admit_above-requires-clause-fit
admit_above-requires-clause-fit c = (checked_yes _ _ _ c.in-Some.ensures).0

pub returns-in_err-exchange : goal.returns-in_err-exchange
returns-in_err-exchange c =
    let p = err_from_is_err_and c.from_residual.result c.from_residual.ensures.1 in
    rw (p.1, p.2) (c.in_err-exchange.ensures ∙ admit_grown _ _ _ (checked_yes _ _ _ c.in-Some.ensures).0 c.if-self.false c.in-Some-wider_than.ensures)

pub returns : goal.returns
returns c =
    c.in_ok-exchange.ensures ∙ admit_grown _ _ _ (checked_yes _ _ _ c.in-Some.ensures).0 c.if-self.false c.in-Some-wider_than.ensures
