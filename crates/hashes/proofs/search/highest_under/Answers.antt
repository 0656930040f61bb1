-- `hashes::search::highest_under` meets its contract.
-- Assumes nothing.
use mathlib.Core.Path.{sym, ◌∙◌}
use Prim.Native.Nat.{◌<◌}
use native.Mathlib.Omega.{arith}
use borrow.Author.Rules.{rules}
use Rattle.hashes.proofs.PrevLaws.{under_over, place_less, under_first}
use Rattle.hashes.proofs.search.highest_under.Goals as goal
use Rattle.hashes.proofs.search.highest_under.Goals.{After-highest}

-- the highest bit is below bit k
less : (c : After-highest) → c.highest.result < c.args.k
less c =
    let a = c.args in
    let e = c.remainder-rest.ensures in
    place_less a.state a.n a.k c.highest.result (rw e at c.highest.ensures.0) (rw e at c.highest.ensures.1)

pub returns-then-rest-eq0 : goal.returns-then-rest-eq0
returns-then-rest-eq0 c =
    let a = c.args in
    sym (under_over a.state a.n a.k (sym c.remainder-rest.ensures ∙ c.if-rest-eq0.true))

pub new-bucket-requires : goal.new-bucket-requires
new-bucket-requires c = omega (arith, less (goal.at.new-bucket-requires c).After-highest)

pub returns : goal.returns
returns c =
    let a = c.args in
    let e = c.remainder-rest.ensures in
    let h = c.highest.ensures in
    let b = c.new-bucket.ensures in
    (rw b at c.first_number.ensures)
    ∙ under_first a.state a.n a.k c.highest.result c.opened.result (search rules) (rw e at h.0) (rw e at h.1) (rw b at c.opened.ensures)
