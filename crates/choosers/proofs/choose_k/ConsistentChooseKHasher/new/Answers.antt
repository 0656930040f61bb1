-- `choosers::choose_k::ConsistentChooseKHasher::new` meets its contract.
-- Assumes nothing.
use borrow.Author.Tests.{lt-ltb, le-ltb}
use Rattle.choosers.specs.ChooserCalls.{new_call}
use Rattle.choosers.proofs.choose_k.ConsistentChooseKHasher.new.Goals as goal

pub returns-then-n-gt-N_LIMIT : goal.returns-then-n-gt-N_LIMIT
unfolding new_call
returns-then-n-gt-N_LIMIT c = rw (lt-ltb _ _ c.if-n-gt-N_LIMIT.true)

pub returns : goal.returns
unfolding new_call
returns c = rw (le-ltb _ _ c.if-n-gt-N_LIMIT.false)
