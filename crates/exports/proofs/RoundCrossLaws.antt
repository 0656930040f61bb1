-- What the calls on rounds leave beside what is coded: the scratch, and the ledger of a replay.
-- Assumes nothing.
use mathlib.Core.Path.{◌≡◌}
use mathlib.Core.List.{List}
use Prim.Native.Nat.{ℕ}
use native.Mathlib.Omega.{arith}
use Rattle.std.specs.Prelude.{Result, Ok, Err}
use Rattle.answers.specs.declared.Refusal.{Refusal}
use Rattle.answers.specs.Refusals.{answer_of}
use Rattle.rounds.specs.Plans as plans
use Rattle.rounds.specs.Replays.{ReplayScratch, Replayed}
use Rattle.exports.specs.Coded.{coded_done}
use Rattle.exports.specs.Slots.{ScratchAfter}
use Rattle.exports.specs.Rounds.{ReplayScratchAs, ReplayedAs}

-- ---- the scratch and the ledger, by whether the call was refused

pub outcome_spares : (o : Result (Unit {0}) Refusal) (a : ℕ) (before now : List ℕ) → a ≡ coded_done (answer_of o) → plans.ScratchAfter o before now → ScratchAfter a before now
outcome_spares (Ok u) a before now e s p = absurd (omega arith)
outcome_spares (Err w) a before now e s p = s

pub replay_spares : (o : Result (Unit {0}) Refusal) (a c : ℕ) (ws before now : List ℕ) → a ≡ coded_done (answer_of o) → ReplayScratch o c ws before now → ReplayScratchAs a c ws before now
replay_spares (Ok u) a c ws before now e s = ((λ p. absurd (omega arith)), s.1)
replay_spares (Err w) a c ws before now e s = ((λ p. s), (λ p. s))

pub outcome_replayed : (o : Result (Unit {0}) Refusal) (a key k n : ℕ) (codes : List ℕ) (bytes places : ℕ) (ws ls ts : List ℕ) → a ≡ coded_done (answer_of o)
    → Replayed o key k n codes bytes places ws ls ts → ReplayedAs a key k n codes bytes places ws ls ts
outcome_replayed (Ok u) a key k n codes bytes places ws ls ts e s z = s
outcome_replayed (Err w) a key k n codes bytes places ws ls ts e s z = absurd (omega arith)
