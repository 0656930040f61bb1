-- The loop of `rounds::round::deal`.
-- Assumes nothing.
use Rattle.std.proofs.Common.{length}
use Rattle.orders.specs.ReservoirCalls.{sample}
use Rattle.rounds.specs.Rounds.{reservoir_of}
use Rattle.rounds.specs.InnerRounds.{dealt_to}
use Rattle.rounds.proofs.DealLaws.{Dealt}
use Rattle.rounds.proofs.round.deal.Given as goal

abbrev pub invariant-loop-place : goal.invariant-loop-place
invariant-loop-place l =
    let r = l.fn.r in
    Dealt (dealt_to r.master_key r.total l.table (length l.initial.scratch)) (sample (reservoir_of r) l.list) l.initial.locations l.initial.terminals (length l.yielded) l.locations l.terminals
