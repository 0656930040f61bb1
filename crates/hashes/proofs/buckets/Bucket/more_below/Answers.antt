-- `hashes::buckets::Bucket::more_below` meets its contract.
-- Assumes nothing.
use Rattle.std.proofs.Common.{◌≡◌, ◌+◌, ◌-◌, ◌%◌, ◌^◌, sym, ap, ◌∙◌, ℕ, cond, arith, rules}
use Rattle.lists.specs.Lists.{below}
use Rattle.hashes.specs.Hashes.{draw}
use Rattle.hashes.specs.InnerSearch.{first_later}
use Rattle.hashes.proofs.LoopLaws.{draws_over, draw_decides, draw_passes}
use Rattle.hashes.proofs.buckets.Bucket.more_below.Goals as goal
use Rattle.hashes.proofs.buckets.Bucket.more_below.Goals.{After-later_number-x}

-- what the turn's draw left of its low bits
drew : (c : After-later_number-x) → c.later_number-x.result ≡ draw c.loop.d % 2 ^ (c.args.self.place + 1)
drew c = c.later_number-x.ensures ∙ ap (λ (z : ℕ). z % 2 ^ (c.args.self.place + 1)) c.drawn-d.ensures

pub returns-then-x-n : goal.returns-then-x-n
returns-then-x-n c =
    let l = c.loop in
    let a = c.args in
    let j = a.self.place in
    let x = c.later_number-x.result in
    c.or_low.ensures ∙ ap (λ (b : ℕ). cond (below b x) a.low x) c.power.ensures
    ∙ sym (draw_decides a.n j a.low c.requires (a.count - l.counter) l.d x (omega arith) (drew (goal.at.returns-then-x-n c).After-later_number-x) (search rules)) ∙ l.invariant

pub loop-preserved : goal.loop-preserved
loop-preserved c =
    let l = c.loop in
    let a = c.args in
    let j = a.self.place in
    let e : a.count - (l.counter + 1) ≡ a.count - l.counter - 1 = omega arith in
    rw e (ap (first_later a.n j a.low (a.count - l.counter - 1)) c.drawn-d.ensures
    ∙ sym (draw_passes a.n j a.low c.requires (a.count - l.counter) l.d c.later_number-x.result (omega arith) (drew (goal.at.loop-preserved c).After-later_number-x) (search rules)) ∙ l.invariant)

pub returns : goal.returns
returns c =
    let l = c.loop in
    let a = c.args in
    sym (draws_over a.n a.self.place a.low c.requires (a.count - l.counter) l.d (omega arith)) ∙ l.invariant
