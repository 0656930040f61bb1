-- What a call says to a round reached: by the round's ledger and by how long its list and its table are, refusals among it.
-- Assumes nothing.
use Rattle.std.specs.Prelude.{◌≡◌, ◌≢◌, Bool, false, cond, List, ℕ, ◌+◌, min, leb, ltb, length}
use Rattle.std.proofs.Math.Option.{Option, none, some}
use Rattle.answers.specs.Answers.{Answer, refusal, result}
use Rattle.lists.specs.Lists.{has}
use Rattle.orders.specs.Reservoirs.{opening}
use Rattle.choosers.specs.SlotCalls.{slot_limit}
use Rattle.rounds.specs.Rounds.{State}
use Rattle.rounds.specs.Ledgers.{Call, admit, join, withdraw, Ledger, due_in, free_slot, answer}
use Rattle.rounds.specs.Plans.{plan_call}
use Rattle.rounds.specs.Histories.{Made, call}
use Rattle.rounds.specs.Demand3.{Reached, ledger_of}

-- 4: "a lent list shorter than what must be written (for a reservoir's list, than the used length that the call would end with)": where v
-- is due that is what an open of v+1 locations lists. The list has so many places.
abbrev pub too_short : Ledger → ℕ → Option ℕ → Bool
too_short g places none = false
too_short g places (some v) = ltb places (length (opening g.key g.k (v + 1)))

-- of a list of so many places and a table of so many bytes
unfoldable pub reply : Ledger → ℕ → ℕ → Call → Answer (List ℕ)
reply g places bytes admit = cond (too_short g places (due_in g)) (refusal 4) (result (answer g admit))
-- 9: "add with no deleted slot and the count at the table's length, or 65,536"
reply g places bytes join = cond (leb (min bytes slot_limit) (free_slot g)) (refusal 9) (result (answer g join))
-- 10: "remove of a slot not active"
reply g places bytes (withdraw x) = cond (has x g.A) (result (answer g (withdraw x))) (refusal 10)

-- ---- the statement

pub record Outcomes : Type 0 where
  -- Each call of a round reached says that, whatever else stands in its list and its table.
  pub replied : (s : State) (h : Reached s) (x : Call) → (call s x).answer ≡ reply (ledger_of h) (length s.list) (length s.table) x
  -- "A refusal returns its number and changes no lent list, table or record": of any round, reached or not.
  pub refused : (s t : State) (x : Call) (w : ℕ) → Made s x (refusal w) t → t ≡ s
  -- A round reached is never refused 12: no call of it,
  pub never_12 : (s : State) → Reached s → (x : Call) → (call s x).answer ≢ refusal 12
  -- and no plan, whatever it is lent.
  pub plan_never_12 : (s : State) → Reached s → (ls ts : List ℕ) (places : ℕ) → (plan_call s ls ts places).answer ≢ refusal 12
