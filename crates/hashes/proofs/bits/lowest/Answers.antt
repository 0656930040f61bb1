-- `hashes::bits::lowest` meets its contract.
-- Assumes nothing.
use borrow.Author.Rules.{rules}
use Rattle.lists.proofs.Places.{lowest_place}
use Rattle.hashes.proofs.bits.lowest.Goals as goal

pub returns : goal.returns
returns c =
    let t = lowest_place 64 c.args.x (search rules) (search rules) in
    (t.zeros, t.one, t.inside)
