-- `choosers::choose_k::ConsistentChooseKHasher::grow_k` meets its contract.
-- Assumes nothing.
use Rattle.std.proofs.lemmas.Result.{err_from_is_err_and}
use mathlib.Core.Path.{sym, ◌∙◌}
use Rattle.choosers.specs.ChooserCalls.{grow_call}
use Rattle.choosers.proofs.ChooserCallLaws.{tests_refuse, passed, grow_full, grow_is}
use Rattle.choosers.proofs.ConsistentLaws.{grow_both}
use Rattle.choosers.proofs.choose_k.ConsistentChooseKHasher.grow_k.Goals as goal

pub returns-in_err-test : goal.returns-in_err-test
unfolding grow_call
returns-in_err-test c =
    let e = err_from_is_err_and c.from_residual.result c.from_residual.ensures.1 in
    let both = grow_both _ _ _ (tests_refuse _ _ _ _ c.in_err-test.ensures) in
    rw (e.1, e.2) (record { answer = both.0; consistent = both.1 })

pub returns-then-self : goal.returns-then-self
returns-then-self c =
    let p = passed _ _ c.in_ok-test.ensures in
    let both = grow_both _ _ _ (grow_full _ _ p.0 p.1 c.if-self.true) in
    record { answer = both.0; consistent = both.1 }

pub returns-in_err-grow : goal.returns-in_err-grow
returns-in_err-grow c =
    let p = passed _ _ c.in_ok-test.ensures in
    let e = err_from_is_err_and c.from_residual-in_err-grow.result c.from_residual-in_err-grow.ensures.1 in
    let both = grow_both _ _ _ (c.in_err-grow.ensures ∙ sym (grow_is _ _ p.0 p.1 c.if-self.false)) in
    rw (e.1, e.2) (record { answer = both.0; consistent = both.1 })

pub returns : goal.returns
returns c =
    let p = passed _ _ c.in_ok-test.ensures in
    let both = grow_both _ _ _ (c.in_ok-grow.ensures ∙ sym (grow_is _ _ p.0 p.1 c.if-self.false)) in
    record { answer = both.0; consistent = both.1 }
