-- `orders::consistent_permutation::ConsistentPermutation::next` meets its contract.
-- Assumes nothing.
use mathlib.Core.Path.{sym, ◌∙◌}
use Rattle.std.proofs.lemmas.Result.{err_from_is_err_and}
use Rattle.orders.proofs.NextLaws.{Passed, tested_yes, tested_no, next_empty, next_first}
use Rattle.orders.proofs.consistent_permutation.ConsistentPermutation.next.Goals as goal
use Rattle.orders.proofs.consistent_permutation.ConsistentPermutation.next.Goals.{In_ok-tested}

passed_is : (c : In_ok-tested) → Passed c.args.self.now
passed_is c = tested_yes c.args.self.now c.in_ok-tested.ensures

pub returns-in_err-tested : goal.returns-in_err-tested
returns-in_err-tested c =
    let p = err_from_is_err_and c.from_residual.result c.from_residual.ensures.1 in
    rw (p.1, p.2) (sym (tested_no c.args.self.now _ c.in_err-tested.ensures))

pub returns-then-self-eq0 : goal.returns-then-self-eq0
returns-then-self-eq0 c = sym (next_empty c.args.self.now (passed_is (goal.at.returns-then-self-eq0 c).In_ok-tested).fit c.if-self-eq0.true)

pub top-top-requires : goal.top-top-requires
top-top-requires c = (passed_is (goal.at.top-top-requires c).In_ok-tested).limit

pub first-requires-clause-limit : goal.first-requires-clause-limit
first-requires-clause-limit c = (passed_is (goal.at.first-requires-clause-limit c).In_ok-tested).limit

pub first-requires-clause-fit : goal.first-requires-clause-fit
first-requires-clause-fit c = (passed_is (goal.at.first-requires-clause-fit c).In_ok-tested).fit

pub returns : goal.returns
returns c =
    let p = passed_is (goal.at.returns c).In_ok-tested in
    c.first.ensures ∙ sym (next_first c.args.self.now _ p.fit p.limit c.if-self-eq0.false c.top-top.ensures.layer)
