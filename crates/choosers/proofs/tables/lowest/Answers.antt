-- `choosers::tables::lowest` meets its contract.
-- Assumes nothing.
use mathlib.Core.Path.{◌≡◌, ◌∙◌}
use mathlib.Core.Logic.{◌≢◌}
use Prim.Native.Nat.{ℕ, ◌-◌}
use native.Mathlib.Omega.{arith}
use borrow.Author.Rules.{rules}
use borrow.Author.Tests.{tests}
use lib.ListN.{length, drop, length-drop}
use lib.Seq.{take_all}
use Rattle.std.specs.Slice.Iter.{iter_rest}
use Rattle.std.proofs.lemmas.Iterator.{YieldsList-from_slice, IsFirst-from_position}
use Rattle.choosers.proofs.TableLaws.{lowest_some, lowest_none}
use Rattle.choosers.proofs.tables.lowest.Goals as goal
use Rattle.choosers.proofs.tables.lowest.Goals.{After-iter}

-- what is looked through
rest : (c : After-iter) → iter_rest c.iter.result ≡ drop c.past_full-from.result c.args.bytes.now
rest c =
    let a = c.args.bytes.now in
    let x = c.past_full-from.result in
    c.iter.ensures.rest ∙ take_all (length a - x) (drop x a) (omega (arith, length-drop x a))

pub returns-in_err-more-clause-none : goal.returns-in_err-more-clause-none
returns-in_err-more-clause-none c =
    let p = c.past_full-from.ensures in
    let f = IsFirst-from_position _ _ _ (λ (b : ℕ). b ≡ 0) (λ (b : ℕ). b ≢ 0) c.in_err-more.ensures.ran (YieldsList-from_slice _ (rest (goal.at.returns-in_err-more-clause-none c).After-iter)) (λ x q k. search (rules, tests)) (λ x q k. search (rules, tests)) in
    rw c.from_residual.ensures (lowest_none _ _ p.within p.taken (λ i h. f i 0 (omega arith) h))

pub returns-clause-some : goal.returns-clause-some
returns-clause-some c =
    let p = c.past_full-from.ensures in
    let f = IsFirst-from_position _ _ _ (λ (b : ℕ). b ≡ 0) (λ (b : ℕ). b ≢ 0) c.in_ok-more.ensures.ran (YieldsList-from_slice _ (rest (goal.at.returns-clause-some c).After-iter)) (λ x q k. search (rules, tests)) (λ x q k. search (rules, tests)) in
    lowest_some _ _ _ p.within p.taken f.0 (f.1 0) (λ i h. f.2 i 0 (omega arith) h)
