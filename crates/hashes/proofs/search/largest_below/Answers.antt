-- `hashes::search::largest_below` meets its contract.
-- Assumes nothing.
use mathlib.Core.Path.{sym, ap, ◌∙◌}
use Prim.Native.Nat.{ℕ, suc, ◌%◌, ◌^◌, ◌<◌, ◌≤◌}
use borrow.Author.Rules.{rules}
use Rattle.hashes.specs.InnerSearch.{buckets_below, first_later}
use Rattle.hashes.proofs.PrevLaws.{prev_small, prev_width, under_over, under_hit, under_miss, high_less}
use Rattle.hashes.proofs.search.largest_below.Goals as goal
use Rattle.hashes.proofs.search.largest_below.Goals.{After-highest-j}

-- the place of the highest bit, in the definition's terms
from : (c : After-highest-j) → 2 ^ c.highest-j.result ≤ c.args.state % 2 ^ buckets_below c.args.n
from c = rw c.bits_below-rest.ensures at c.highest-j.ensures.0

to : (c : After-highest-j) → c.args.state % 2 ^ buckets_below c.args.n < 2 ^ suc c.highest-j.result
to c = rw c.bits_below-rest.ensures at c.highest-j.ensures.1

less : (c : After-highest-j) → (c.highest-j.result < 63) × (2 ^ c.highest-j.result < c.args.n)
less c =
    let a = c.args in
    high_less a.state a.n c.highest-j.result (search rules) (search rules) (from c) (to c)

pub returns-then-n-le1 : goal.returns-then-n-le1
returns-then-n-le1 c = sym (prev_small c.args.state c.args.n (search rules))

pub returns-then-rest-eq0 : goal.returns-then-rest-eq0
returns-then-rest-eq0 c =
    let a = c.args in
    sym (prev_width a.state a.n (search rules) (search rules) ∙ under_over a.state a.n (buckets_below a.n) (sym c.bits_below-rest.ensures ∙ c.if-rest-eq0.true))

pub new-bucket-requires : goal.new-bucket-requires
new-bucket-requires c = (less (goal.at.new-bucket-requires c).After-highest-j).0

pub returns-then-x-n : goal.returns-then-x-n
returns-then-x-n c =
    let a = c.args in
    let b = c.new-bucket.ensures in
    under_hit a.state a.n (buckets_below a.n) c.highest-j.result (from (goal.at.returns-then-x-n c).After-highest-j) (to (goal.at.returns-then-x-n c).After-highest-j) _ _ (rw b at c.opened-d.ensures) (rw b at c.first_number-x.ensures) (search rules)
    ∙ sym (prev_width a.state a.n (search rules) (search rules))

pub highest_under-low-requires : goal.highest_under-low-requires
highest_under-low-requires c = less (goal.at.highest_under-low-requires c).After-highest-j

pub later_below-requires : goal.later_below-requires
later_below-requires c = rw c.new-bucket.ensures (less (goal.at.later_below-requires c).After-highest-j).1

pub returns : goal.returns
returns c =
    let a = c.args in
    let b = c.new-bucket.ensures in
    let j : ℕ = c.highest-j.result in
    let d : ℕ = c.opened-d.result in
    (rw b at c.later_below.ensures)
    ∙ ap (λ (low : ℕ). first_later a.n j low 255 d) c.highest_under-low.ensures
    ∙ under_miss a.state a.n (buckets_below a.n) j (from (goal.at.returns c).After-highest-j) (to (goal.at.returns c).After-highest-j) _ _ (rw b at c.opened-d.ensures) (rw b at c.first_number-x.ensures) (search rules)
    ∙ sym (prev_width a.state a.n (search rules) (search rules))
