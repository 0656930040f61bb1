-- `choosers::samples::lower` meets its contract.
-- Assumes nothing.
use mathlib.Core.Path.{◌≡◌}
use mathlib.Core.List.{map}
use Prim.Native.Nat.{◌≤◌}
use lib.ListN.{length}
use Rattle.choosers.specs.Choosers.{lower_at}
use Rattle.choosers.specs.InnerHolding.{Kept, Rises, Under}
use Rattle.choosers.proofs.samples.lower.Given as goal

abbrev pub invariant-loop-i : goal.invariant-loop-i
invariant-loop-i g l =
    let p = g.P.Holding in
    (l.i ≤ l.m) × (l.m ≤ p.limit)
    × (lower_at l.state (length l.initial.list) (map p.sample l.initial.list) l.from ≡ lower_at l.state l.i (map p.sample l.list) l.m)
    × Kept p.keeps l.state l.list (length l.list) × Rises (map p.sample l.list) l.i × Under (map p.sample l.list) l.i l.m
