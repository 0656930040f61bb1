-- `hashes::search::next_set` meets its contract.
-- Assumes nothing.
use Rattle.std.proofs.Common.{◌≡◌, ◌+◌, arith, rules}
use Rattle.hashes.specs.InnerSearch.{NextSet}
use Rattle.hashes.proofs.PlaceLaws.{left_pos, next_place}
use Rattle.hashes.proofs.search.next_set.Goals as goal
use Rattle.hashes.proofs.search.next_set.Goals.{After-lowest}

pub lowest-requires : goal.lowest-requires
lowest-requires c = left_pos c.args.state c.args.k (search rules)

found : (c : After-lowest) → NextSet c.args.state c.args.k (c.args.k + c.lowest.result)
found c =
    let e = c.lowest.ensures in
    next_place c.args.state c.args.k c.lowest.result (search rules) (record { inside = e.2; zeros = e.0; one = e.1 })

pub returns-then-place-lt63 : goal.returns-then-place-lt63
returns-then-place-lt63 c = rw c.new.ensures (found (goal.at.returns-then-place-lt63 c).After-lowest)

pub returns-else-place-lt63 : goal.returns-else-place-lt63
returns-else-place-lt63 c =
    let t = found (goal.at.returns-else-place-lt63 c).After-lowest in
    let e : 63 ≡ c.args.k + c.lowest.result = omega (arith, t.to) in
    rw e t
