-- `exports::round::RoundRecord::loaded` meets its contract.
-- Assumes nothing.
use Rattle.exports.proofs.round.RoundRecord.loaded.Goals as goal

pub returns : goal.returns
returns c = rw c.joined.ensures
