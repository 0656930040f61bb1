-- Document 02, §1, "The place of a location": what the place says of a plan, "how far down the count order it stands". The theorem is
-- `plan_places` of proofs/PlanPlaceLaws.antt.
-- Assumes nothing.
use Rattle.std.specs.Prelude.{◌≡◌, List, map, ℕ, ◌<◌, ltb, get_or}
use Rattle.answers.specs.Answers.{result}
use Rattle.lists.specs.Lists.{has}
use Rattle.orders.specs.Places.{place}
use Rattle.rounds.specs.Rounds.{State}
use Rattle.rounds.specs.Ledgers.{Sheet}
use Rattle.rounds.specs.Demand3.{Reached, PlanOf}

-- the locations of a plan, place by place
unfoldable pub locations : List Sheet → List ℕ
locations ss = map (λ s. s.location) ss

-- the place of a location in P(n) of a round
abbrev pub place_in : State → ℕ → ℕ
place_in s v = place s.round.master_key s.round.n v

pub record PlanPlaces (s : State) (ss : List Sheet) : Type 0 where
  -- a location has a sheet exactly if its place is below k,
  pub planned : (v : ℕ) → v < s.round.n → has v (locations ss) ≡ ltb (place_in s v) s.round.k
  -- and that sheet stands at its place
  pub stands : (v : ℕ) → v < s.round.n → place_in s v < s.round.k → get_or (locations ss) (place_in s v) 0 ≡ v

-- of every round reached and each plan of it that is not refused
abbrev pub AllPlanPlaces : Type 0
AllPlanPlaces = (s : State) → Reached s → (ss : List Sheet) → PlanOf s (result ss) → PlanPlaces s ss
