-- Document 01, **Round**: what plan says and leaves, on any record, list and table; and the plan as it stands in memory.
-- Assumes nothing.
use Rattle.std.specs.Prelude.{◌≡◌, cond, ◌||◌, List, [], ◌∷◌, map, ℕ, min, ltb, eqb, length, take, Result, Ok, Err}
use Rattle.std.proofs.Math.Option.{some, get_or}
use Rattle.answers.specs.Answers.{Answer, result, map_answer, After, refused, after}
use Rattle.lists.specs.Lists.{written}
use Rattle.answers.specs.declared.Refusal.{Refusal}
use Rattle.orders.specs.ReservoirCalls as Reservoir
use Rattle.choosers.specs.Slots.{actives, holder}
use Rattle.choosers.specs.SlotCalls as Slots
use Rattle.rounds.specs.Locations.{state_of}
use Rattle.rounds.specs.Rounds.{reservoir_of, State, fitting}
use Rattle.rounds.specs.Ledgers.{Sheet, sheet}

-- the two lists of a plan
pub record PlanLists : Type 0 where
  pub locations : List ℕ
  pub terminals : List ℕ

abbrev pub plan_lists : List ℕ → List ℕ → PlanLists
plan_lists ls ts = record { locations = ls; terminals = ts }

-- "the sampled location"
abbrev pub sampled : State → List ℕ
sampled s = Reservoir.sample (reservoir_of s.round) s.list

-- "the slot that get gives for state mix(key xor location)". Where a slot is active get gives one (law `plan_gets`); 0 would stand
-- for none.
unfoldable pub terminal_of : State → ℕ → ℕ
terminal_of s x = get_or (holder (state_of s.round.master_key x) s.table s.round.total) 0

-- "for place 0..k−1 the sampled location and the slot that get gives for state mix(key xor location). It writes two lent u32
-- lists, only their first k places". Lent are the two lists and a scratch of so many places. 4: "a lent list shorter than what
-- must be written .. or scratch shorter than the smaller of the table's length and 65,536"; 11: "plan with none active".
unfoldable pub plan_call : State → List ℕ → List ℕ → ℕ → After PlanLists (Unit {0})
plan_call s ls ts places =
    let k = s.round.k in
    cond (fitting s)
    (cond (ltb (length ls) k || ltb (length ts) k || ltb places (min (length s.table) Slots.slot_limit)) (refused 4 (plan_lists ls ts))
    (cond (eqb (length (actives s.table s.round.total)) 0) (refused 11 (plan_lists ls ts))
    (after (result tt) (plan_lists (written (sampled s) ls) (written (map (terminal_of s) (sampled s)) ts)))))
    (refused 12 (plan_lists ls ts))

-- "the scratch is free after an accepted .. plan, unchanged after a refused one"; it keeps its length
abbrev pub ScratchAfter : Result (Unit {0}) Refusal → List ℕ → List ℕ → Type 0
ScratchAfter (Ok u) before now = length now ≡ length before
ScratchAfter (Err why) before now = now ≡ before

-- ---- the plan as it stands in memory

-- place by place, a location with its terminal
abbrev pub sheets : List ℕ → List ℕ → List Sheet
sheets [] ts = []
sheets (x ∷ xs) [] = []
sheets (x ∷ xs) (t ∷ ts) = sheet x (some t) ∷ sheets xs ts

-- the first k places of the two lists, or the plan's refusal
unfoldable pub shown_plan : ℕ → After PlanLists (Unit {0}) → Answer (List Sheet)
shown_plan k a = map_answer (λ u. sheets (take k a.left.locations) (take k a.left.terminals)) a.answer
