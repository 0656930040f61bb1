-- `rounds::locations::location_state` meets its contract.
-- Assumes nothing.
use Rattle.rounds.specs.Locations.{state_of}
use Rattle.rounds.proofs.locations.location_state.Goals as goal

pub returns : goal.returns
unfolding state_of
returns c = rw c.from.ensures at c.fed_state.ensures
