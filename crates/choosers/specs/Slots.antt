-- Document 01, "A plan call, followed downwards", **Slots**, sentence by sentence.
-- Assumes nothing.
use Rattle.std.specs.Prelude.{Bool, ◌&&◌, List, ℕ, suc, ltb, eqb, get_or}
use Rattle.std.proofs.Math.Option
use Rattle.std.proofs.Math.Option.{Option, none, some}
use Rattle.lists.specs.Lists.{keep, has, zero_to, largest, find, first_from}
use Rattle.hashes.specs.Hashes.{feed}
use Rattle.choosers.specs.Choosers.{Q}

-- "a slot below the count is active where its byte is 1 .., and no other slot is .., whatever its byte"
unfoldable pub active : List ℕ → ℕ → ℕ → Bool
active table count x = ltb x count && eqb (get_or table x 0) 1

-- ".. and deleted where it is 0"
unfoldable pub deleted : List ℕ → ℕ → ℕ → Bool
deleted table count x = ltb x count && eqb (get_or table x 0) 0

-- the active slots, the lowest first
unfoldable pub actives : List ℕ → ℕ → List ℕ
actives table count = keep (active table count) (zero_to count)

-- "Add takes the lowest deleted slot below the count, else the count"
unfoldable pub vacant : List ℕ → ℕ → ℕ
vacant table count = Option.get_or (first_from (deleted table count) 0 count) count

-- "Get for state s: the first active slot in Q(count)."
unfoldable pub holder : ℕ → List ℕ → ℕ → Option ℕ
holder s table count = find (active table count) (Q s count)

-- ---- the slot for a state, from the list of active slots alone

-- 1 + the number, 0 where there is none
abbrev pub one_above : Option ℕ → ℕ
one_above none = 0
one_above (some x) = suc x

-- the first of the slots A in Q(1 + the highest of them)
unfoldable pub slot_among : ℕ → List ℕ → Option ℕ
slot_among s A = find (λ x. has x A) (Q s (one_above (largest A)))

-- ---- the states that slots are looked up by

-- "feeding a .. v makes it mix(state xor v)". Rounds, which see no promise of hashes, state by it what a location's state is.
abbrev pub fed_state : ℕ → ℕ → ℕ
fed_state state v = feed state v
