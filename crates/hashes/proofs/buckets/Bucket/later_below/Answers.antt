-- `hashes::buckets::Bucket::later_below` meets its contract.
-- Assumes nothing.
use mathlib.Core.Path.{ap, ◌∙◌}
use mathlib.Core.Bool.{cond}
use Prim.Native.Nat.{ℕ}
use borrow.Author.Rules.{rules}
use Rattle.lists.specs.Lists.{below}
use Rattle.hashes.proofs.LoopLaws.{two_decide, two_pass}
use Rattle.hashes.proofs.buckets.Bucket.later_below.Goals as goal

pub returns-then-x-n : goal.returns-then-x-n
returns-then-x-n c =
    let a = c.args in
    let z = c.first_of-x.result in
    c.or_low.ensures ∙ ap (λ (b : ℕ). cond (below b z) a.low z) c.power.ensures
    ∙ two_decide a.n a.self.place a.low c.requires _ _ _ _ _ _ c.drawn-e.ensures c.drawn-d.ensures c.later_number.ensures c.later_number-2.ensures c.first_of-x.ensures (search rules)

pub returns : goal.returns
returns c =
    let a = c.args in
    c.more_below.ensures
    ∙ two_pass a.n a.self.place a.low c.requires _ _ _ _ _ _ c.drawn-e.ensures c.drawn-d.ensures c.later_number.ensures c.later_number-2.ensures c.first_of-x.ensures (search rules)
