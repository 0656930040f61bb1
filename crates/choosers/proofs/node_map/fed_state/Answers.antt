-- `choosers::node_map::fed_state` meets its contract.
-- Assumes nothing.
use Rattle.choosers.proofs.node_map.fed_state.Goals as goal

pub returns : goal.returns
returns c = c.seq_builder.ensures
