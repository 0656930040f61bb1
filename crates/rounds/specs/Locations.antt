-- Document 01, **Round**: the state that a location's slot is looked up by, and its slot, from the active slots alone.
-- Assumes nothing.
use Rattle.std.specs.Prelude.{List, ℕ}
use Rattle.std.proofs.Math.Option.{Option}
use Rattle.choosers.specs.Slots.{slot_among, fed_state}

-- "for state mix(key xor location)"
unfoldable pub state_of : ℕ → ℕ → ℕ
state_of key location = fed_state key location

-- "By definition a location's slot is the first active one in Q(1 + highest active slot)."
unfoldable pub slot_of : ℕ → ℕ → List ℕ → Option ℕ
slot_of key location A = slot_among (state_of key location) A
