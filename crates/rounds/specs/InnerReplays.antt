-- What the promises of private functions on replays say. No public promise cites this file.
-- Assumes nothing.
use Rattle.std.specs.Prelude.{List, ◌++◌, ℕ, ◌+◌, length, take, drop}
use Rattle.rounds.specs.Rounds.{State}
use Rattle.rounds.specs.Ledgers.{Call}
use Rattle.rounds.specs.Histories.{call}
use Rattle.rounds.specs.Replays.{coded}

-- xs over the places from p on
unfoldable pub placed_at : ℕ → List ℕ → List ℕ → List ℕ
placed_at p xs l = take p l ++ xs ++ drop (p + length xs) l

-- a call's answer as four numbers, and what stands after it
pub record Stepped : Type 0 where
  pub words : List ℕ
  pub state : State

abbrev pub stepped : List ℕ → State → Stepped
stepped words s = record { words = words; state = s }

unfoldable pub step_of : Call → State → Stepped
step_of x s =
    let a = call s x in
    stepped (coded a.answer) a.left
