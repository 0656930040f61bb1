-- The plan one sheet at a time: the location and the slot at a place, and the locations that a slot holds, from a round's record, list
-- and table, and from a plan.
-- Assumes nothing.
use Rattle.std.specs.Prelude.{Bool, false, List, [], ◌∷◌, ℕ, eqb, get_or}
use Rattle.std.proofs.Math.Option.{Option, none, some}
use Rattle.answers.specs.Answers.{Answer, refusal, result}
use Rattle.lists.specs.Lists.{put, keep}
use Rattle.choosers.specs.Slots.{holder}
use Rattle.rounds.specs.Locations.{state_of}
use Rattle.rounds.specs.Rounds.{State}
use Rattle.rounds.specs.Ledgers.{Sheet, sheet}
use Rattle.rounds.specs.Plans.{sampled}

-- 01, **Round**: "the slot that get gives for state mix(key xor location)"; none where none is active
unfoldable pub slot_for : State → ℕ → Option ℕ
slot_for s x = holder (state_of s.round.master_key x) s.table s.round.total

-- 01, **Round**: "for place 0..k−1 the sampled location", places counted from 0
unfoldable pub location_at : State → ℕ → ℕ
location_at s p = get_or (sampled s) p 0

-- 01, **Round**: "for place 0..k−1 the sampled location and the slot that get gives"
unfoldable pub sheet_at : State → ℕ → Sheet
sheet_at s p = sheet (location_at s p) (slot_for s (location_at s p))

-- ---- what a slot holds

-- whether that is slot x
abbrev pub is_slot : ℕ → Option ℕ → Bool
is_slot x none = false
is_slot x (some y) = eqb y x

-- 02, §2: "for a slot, each location it holds .., in place order". With none active no slot holds any.
unfoldable pub held_by : State → ℕ → List ℕ
held_by s x = keep (λ y. is_slot x (slot_for s y)) (sampled s)

-- 02, §10: "per slot .. which, slot after slot in place order": of sheets, the locations whose terminal is slot x
unfoldable pub held_in : ℕ → List Sheet → List ℕ
held_in x [] = []
held_in x (s ∷ ss) = put (is_slot x s.terminal) s.location (held_in x ss)

-- of a plan; 01, **Ledger**: "a refused plan gives none"
unfoldable pub held_of : Answer (List Sheet) → ℕ → List ℕ
held_of (refusal w) x = []
held_of (result ss) x = held_in x ss
