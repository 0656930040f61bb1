-- `hashes::buckets::Bucket::least_from` meets its contract.
-- Assumes nothing.
use Rattle.std.proofs.Common.{◌≡◌, ◌+◌, ◌-◌, ◌%◌, ◌^◌, max, refl, sym, ap, ap₂, ◌∙◌, ℕ, arith}
use Rattle.hashes.specs.Hashes.{draw, draws, later_numbers}
use Rattle.hashes.specs.InnerSearch.{least_of}
use Rattle.hashes.proofs.LoopLaws.{least_over, least_stops, least_passes}
use Rattle.hashes.proofs.buckets.Bucket.least_from.Goals as goal
use Rattle.hashes.proofs.buckets.Bucket.least_from.Goals.{After-later_number-y}

-- what the turn's draw left of its low bits
drew : (c : After-later_number-y) → c.later_number-y.result ≡ draw c.loop.d % 2 ^ (c.args.self.place + 1)
drew c = c.later_number-y.ensures ∙ ap (λ (z : ℕ). z % 2 ^ (c.args.self.place + 1)) c.drawn-d.ensures

pub loop-init : goal.loop-init
loop-init c =
    let m = c.args.m in
    (c.max-stop.ensures ∙ ap (λ (b : ℕ). max b m) c.power.ensures, refl)

pub returns-then-y-stop : goal.returns-then-y-stop
returns-then-y-stop c =
    let l = c.loop in
    let a = c.args in
    sym (least_stops a.m a.self.place l.least (255 - l.counter) l.d c.later_number-y.result (omega arith) (drew (goal.at.returns-then-y-stop c).After-later_number-y) (omega arith)) ∙ l.invariant.1

pub loop-preserved : goal.loop-preserved
loop-preserved c =
    let l = c.loop in
    let a = c.args in
    let j = a.self.place in
    let e : 255 - (l.counter + 1) ≡ 255 - l.counter - 1 = omega arith in (
      l.invariant.0,
      rw e (ap₂ (λ (x d : ℕ). least_of a.m x (later_numbers (2 ^ j) (draws (255 - l.counter - 1) d))) c.min-least.ensures c.drawn-d.ensures
          ∙ sym (least_passes a.m j l.least (255 - l.counter) l.d c.later_number-y.result (omega arith) (drew (goal.at.loop-preserved c).After-later_number-y) (omega arith)) ∙ l.invariant.1),
    )

pub returns : goal.returns
returns c =
    let l = c.loop in
    let a = c.args in
    sym (least_over a.m a.self.place l.least (255 - l.counter) l.d (omega arith)) ∙ l.invariant.1
