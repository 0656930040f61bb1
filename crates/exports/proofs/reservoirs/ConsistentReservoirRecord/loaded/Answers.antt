-- `exports::reservoirs::ConsistentReservoirRecord::loaded` meets its contract.
-- Assumes nothing.
use Rattle.exports.proofs.reservoirs.ConsistentReservoirRecord.loaded.Goals as goal

pub returns : goal.returns
returns c = rw c.joined.ensures
