-- What the promises of private functions on rounds say. No public promise cites this file.
-- Assumes nothing.
use Rattle.std.specs.Prelude.{Bool, cond, List, ℕ, eqb, length}
use Rattle.std.proofs.Math.Option.{get_or}
use Rattle.std.specs.Slice.Iter.{iter_rest}
use Rattle.answers.specs.Answers.{Answer, refusal, result}
use Rattle.lists.specs.Lists.{keep}
use Rattle.orders.specs.Reservoirs.{counts}
use Rattle.orders.specs.declared.consistent_reservoir.ConsistentReservoir.{ConsistentReservoir}
use Rattle.choosers.specs.declared.node_map.ConsistentNodeMap.{ConsistentNodeMap}
use Rattle.choosers.specs.Slots.{actives}
use Rattle.choosers.specs.SlotCalls as Slots
use Rattle.rounds.specs.Locations.{state_of}
use Rattle.rounds.specs.declared.round.Round.{Round}
use Rattle.rounds.specs.declared.sheets.Sampled.{Sampled}
use Rattle.rounds.specs.Rounds.{reservoir_of, map_of, round_of, State, fitting}

abbrev pub begun : ConsistentReservoir → Round
begun a = round_of a (Slots.map_of 0)

abbrev pub with_reservoir : Round → ConsistentReservoir → Round
with_reservoir r a = round_of a (map_of r)

abbrev pub with_map : Round → ConsistentNodeMap → Round
with_map r m = round_of (reservoir_of r) m

-- whether no slot is active, of a record that fits its memory
unfoldable pub idle_of : State → Answer Bool
idle_of s = cond (fitting s) (result (eqb (length (actives s.table s.round.total)) 0)) (refusal 12)

-- the sampled locations that an iterator over a list has left
abbrev pub still_sampled : Sampled → List ℕ
still_sampled s = keep (counts s.n) (iter_rest s.rest)

-- the slot of location x that the lookup finds with a scratch of so many places, 0 where it finds none
unfoldable pub dealt_to : ℕ → ℕ → List ℕ → ℕ → ℕ → ℕ
dealt_to key total t places x = get_or (Slots.look_up total t (state_of key x) places) 0
