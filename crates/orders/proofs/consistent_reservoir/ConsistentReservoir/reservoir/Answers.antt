-- `orders::consistent_reservoir::ConsistentReservoir::reservoir` meets its contract.
-- Assumes nothing.
use mathlib.Core.Path.{◌≡◌, sym, ◌∙◌}
use mathlib.Core.Bool.{true}
use native.Mathlib.Omega.{arith}
use lib.Seq.{length-take-le}
use Rattle.orders.specs.ReservoirCalls.{sample, fitting}
use Rattle.orders.proofs.CheckLaws.{Fits, fits_parts}
use Rattle.orders.proofs.OpenLaws.{sample_unfit, sample_short, sample_done}
use Rattle.orders.proofs.consistent_reservoir.ConsistentReservoir.reservoir.Goals as goal
use Rattle.orders.proofs.consistent_reservoir.ConsistentReservoir.reservoir.Goals.{Else-not-fits}

ok : (c : Else-not-fits) → fitting c.args.self c.args.list.now ≡ true
ok c = sym c.fits.ensures ∙ c.if-not-fits.false

pub returns-then-not-fits : goal.returns-then-not-fits
returns-then-not-fits c = sample_unfit _ _ _ (sym c.fits.ensures ∙ c.if-not-fits.true)

pub returns-then-out-self : goal.returns-then-out-self
returns-then-out-self c = sample_short _ _ _ (ok (goal.at.returns-then-out-self c).Else-not-fits) c.if-out-self.true

pub slice_bounds-gather-end : goal.slice_bounds-gather-end
slice_bounds-gather-end c =
    let s : Fits _ _ = fits_parts _ _ (ok (goal.at.slice_bounds-gather-end c).Else-not-fits) in
    sym (length-take-le _ _ s.shape.used_le)

pub gather-requires : goal.gather-requires
unfolding sample
gather-requires c =
    let s : Fits _ _ = fits_parts _ _ (ok (goal.at.gather-requires c).Else-not-fits) in
    omega (arith, s.sampled)

pub returns : goal.returns
returns c =
    rw c.gather.ensures (sample_done _ _ _ (ok (goal.at.returns c).Else-not-fits) c.if-out-self.false)
