-- `choosers::node_map::first_active` meets its contract.
-- Assumes nothing.
use Rattle.choosers.specs.InnerHolding.{Stands}
use mathlib.Core.Path.{◌≡◌}
use lib.ListN.{length}
use Rattle.choosers.specs.Slots.{active}
use Rattle.choosers.proofs.LookLaws.{Ahead}
use Rattle.choosers.proofs.node_map.first_active.Given as goal

abbrev pub invariant-loop-k : goal.invariant-loop-k
invariant-loop-k l = (length l.scratch ≡ length l.initial.scratch) × Ahead (active l.table l.count) l.state l.count (length l.initial.scratch) l.k × Stands l.state l.scratch l.k l.count
