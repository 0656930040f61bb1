-- `rounds::replays::run_calls` meets its contract.
-- Assumes nothing.
use mathlib.Core.Path.{◌≡◌}
use mathlib.Core.List.{map}
use Prim.Native.Nat.{◌*◌}
use Rattle.rounds.specs.Rounds.{state}
use Rattle.rounds.specs.Histories.{after_all}
use Rattle.rounds.specs.Calls.{call_of}
use Rattle.rounds.proofs.ReplayTurns.{calls_from, placed_all}
use Rattle.rounds.proofs.replays.run_calls.Given as goal

abbrev pub invariant-loop-i : goal.invariant-loop-i
invariant-loop-i l =
    (after_all (state l.round l.list l.table) (calls_from l.i l.calls) ≡ after_all (state l.initial.round l.initial.list l.initial.table) (map call_of l.calls))
    × (placed_all (4 * l.i) (state l.round l.list l.table) (calls_from l.i l.calls) l.answers ≡ placed_all 0 (state l.initial.round l.initial.list l.initial.table) (map call_of l.calls) l.initial.answers)
