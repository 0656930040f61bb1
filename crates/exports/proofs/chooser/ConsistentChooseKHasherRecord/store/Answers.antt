-- `exports::chooser::ConsistentChooseKHasherRecord::store` meets its contract.
-- Assumes nothing.
use borrow.Author.Rules.{rules}
use lib.ListN.{length-set}
use Rattle.lists.proofs.Writing.{sets_written}
use Rattle.exports.specs.Chooser.{chooser_words}
use Rattle.exports.proofs.chooser.ConsistentChooseKHasherRecord.store.Goals as goal

pub bounds-words-1 : goal.bounds-words-1
bounds-words-1 c = simp length-set (search rules)

pub returns : goal.returns
returns c = sets_written (chooser_words c.args.self) _ c.requires
