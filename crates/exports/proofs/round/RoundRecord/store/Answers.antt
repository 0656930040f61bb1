-- `exports::round::RoundRecord::store` meets its contract.
-- Assumes nothing.
use lib.ListN.{length-set}
use borrow.Author.Rules.{rules}
use Rattle.lists.proofs.Writing.{sets_written}
use Rattle.exports.specs.Rounds.{round_words}
use Rattle.exports.proofs.round.RoundRecord.store.Goals as goal

pub bounds-words-1 : goal.bounds-words-1
bounds-words-1 c = simp length-set (search rules)

pub bounds-words-2 : goal.bounds-words-2
bounds-words-2 c = simp length-set (search rules)

pub bounds-words-3 : goal.bounds-words-3
bounds-words-3 c = simp length-set (search rules)

pub bounds-words-4 : goal.bounds-words-4
bounds-words-4 c = simp length-set (search rules)

pub bounds-words-5 : goal.bounds-words-5
bounds-words-5 c = simp length-set (search rules)

pub returns : goal.returns
returns c = rw c.parted-low.ensures (sets_written (round_words c.args.self) _ c.requires)
