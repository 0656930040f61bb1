-- `hashes::buckets::Bucket::least_in` meets its contract.
-- Assumes nothing.
use Rattle.std.proofs.Common.{sym, ap, ◌∙◌, ℕ, rules}
use Rattle.std.proofs.Math.Option.{some}
use Rattle.hashes.proofs.StateLaws.{least_none, least_some}
use Rattle.hashes.proofs.buckets.Bucket.least_in.Goals as goal

pub returns-then-x-m : goal.returns-then-x-m
returns-then-x-m c =
    let a = c.args in
    sym (least_none a.state a.self.place a.m _ _ c.opened-d.ensures c.first_number-x.ensures (search rules))

pub returns : goal.returns
returns c =
    let a = c.args in
    ap (λ (x : ℕ). some x) c.least_from.ensures ∙ sym (least_some a.state a.self.place a.m _ _ c.opened-d.ensures c.first_number-x.ensures (search rules))
