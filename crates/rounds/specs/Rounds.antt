-- Document 01, **Round**: "A reservoir and a slot map under one key." What open, admit, join and withdraw say and leave, on any
-- record, list and table. The plan stands in Plans.antt.
-- Assumes nothing.
use Rattle.std.specs.Prelude.{Bool, cond, ◌&&◌, List, ℕ}
use Rattle.std.proofs.Math.Option.{Option}
use Rattle.answers.specs.Answers.{map_answer, After, after, refused}
use Rattle.orders.specs.declared.consistent_reservoir.ConsistentReservoir.{ConsistentReservoir}
use Rattle.orders.specs.ReservoirCalls as Reservoir
use Rattle.orders.specs.ReservoirCalls.{ReservoirState}
use Rattle.choosers.specs.declared.node_map.ConsistentNodeMap.{ConsistentNodeMap}
use Rattle.choosers.specs.SlotCalls as Slots
use Rattle.choosers.specs.SlotCalls.{SlotState}
use Rattle.rounds.specs.declared.round.Round.{Round}

-- a round's reservoir and its slot map
abbrev pub reservoir_of : Round → ConsistentReservoir
reservoir_of r = record { master_key = r.master_key; k = r.k; n = r.n; j_max = r.j_max; used = r.used }

abbrev pub map_of : Round → ConsistentNodeMap
map_of r = Slots.map_of r.total

-- the round of a reservoir and a slot map
abbrev pub round_of : ConsistentReservoir → ConsistentNodeMap → Round
round_of a m = record { master_key = a.master_key; k = a.k; n = a.n; j_max = a.j_max; used = a.used; total = m.total }

-- demand 3: "the round's one record, list and table"
pub record State : Type 0 where
  pub round : Round
  pub list : List ℕ
  pub table : List ℕ

abbrev pub state : Round → List ℕ → List ℕ → State
state r l t = record { round = r; list = l; table = t }

-- "each checks the record against both (12)"
unfoldable pub fitting : State → Bool
fitting s = Reservoir.fitting (reservoir_of s.round) s.list && Slots.fitting (map_of s.round) s.table

-- ---- open

-- the reservoir's open, which leaves the list; "An accepted open sets the slot count to 0 and writes no table byte."
unfoldable pub open_call : ℕ → ℕ → ℕ → List ℕ → After (List ℕ) Round
open_call key k n l =
    let o = Reservoir.open_call k n key l in
    after (map_answer (λ a. round_of a (Slots.map_of 0)) o.answer) o.left

-- ---- admit, join, withdraw

-- the reservoir's call: the slot map and the table stay
abbrev pub by_reservoir : {A : Type 0} → State → After ReservoirState A → After State A
by_reservoir s a = after a.answer (state (round_of a.left.reservoir (map_of s.round)) a.left.list s.table)

-- the slot map's call: the reservoir and the list stay
abbrev pub by_slots : {A : Type 0} → State → After SlotState A → After State A
by_slots s a = after a.answer (state (round_of (reservoir_of s.round) a.left.map) s.list a.left.table)

unfoldable pub admit_call : State → After State (Option (ℕ × ℕ))
admit_call s = cond (fitting s) (by_reservoir s (Reservoir.admit_call (reservoir_of s.round) s.list)) (refused 12 s)

-- "join (add)"
unfoldable pub join_call : State → After State ℕ
join_call s = cond (fitting s) (by_slots s (Slots.add_call (map_of s.round) s.table)) (refused 12 s)

-- "withdraw (remove)"
unfoldable pub withdraw_call : State → ℕ → After State (Unit {0})
withdraw_call s x = cond (fitting s) (by_slots s (Slots.remove_call (map_of s.round) s.table x)) (refused 12 s)
