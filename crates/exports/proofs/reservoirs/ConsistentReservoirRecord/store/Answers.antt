-- `exports::reservoirs::ConsistentReservoirRecord::store` meets its contract.
-- Assumes nothing.
use borrow.Author.Rules.{rules}
use lib.ListN.{length-set}
use Rattle.lists.proofs.Writing.{sets_written}
use Rattle.exports.specs.Reservoirs.{words_of}
use Rattle.exports.proofs.reservoirs.ConsistentReservoirRecord.store.Goals as goal

pub bounds-words-1 : goal.bounds-words-1
bounds-words-1 c = simp length-set (search rules)

pub bounds-words-2 : goal.bounds-words-2
bounds-words-2 c = simp length-set (search rules)

pub bounds-words-3 : goal.bounds-words-3
bounds-words-3 c = simp length-set (search rules)

pub bounds-words-4 : goal.bounds-words-4
bounds-words-4 c = simp length-set (search rules)

pub returns : goal.returns
returns c = rw c.parted-low.ensures (sets_written (words_of c.args.self) _ c.requires)
