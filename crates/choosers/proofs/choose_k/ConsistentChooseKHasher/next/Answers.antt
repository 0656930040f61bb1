-- `choosers::choose_k::ConsistentChooseKHasher::next` meets its contract.
-- Assumes nothing.
use Rattle.std.proofs.lemmas.Result.{err_from_is_err_and}
use mathlib.Core.Path.{sym, ap, ◌∙◌}
use native.Mathlib.Omega.{arith}
use Rattle.choosers.specs.ChooserCalls.{next_call}
use Rattle.choosers.proofs.ChooserCallLaws.{tests_refuse, passed, next_full, drawn, next_is, grown_index}
use Rattle.choosers.proofs.ConsistentLaws.{next_both}
use Rattle.choosers.proofs.choose_k.ConsistentChooseKHasher.next.Goals as goal

pub returns-in_err-test : goal.returns-in_err-test
unfolding next_call
returns-in_err-test c =
    let e = err_from_is_err_and c.from_residual.result c.from_residual.ensures.1 in
    let both = next_both _ _ _ (tests_refuse _ _ _ _ c.in_err-test.ensures) in
    rw (e.1, e.2) (record { answer = both.0; consistent_next = both.1 })

pub returns-then-self : goal.returns-then-self
returns-then-self c =
    let p = passed _ _ c.in_ok-test.ensures in
    let both = next_both _ _ _ (next_full _ _ p.0 p.1 c.if-self.true) in
    record { answer = both.0; consistent_next = both.1 }

pub returns-in_err-i : goal.returns-in_err-i
returns-in_err-i c =
    let p = passed _ _ c.in_ok-test.ensures in
    let e = err_from_is_err_and c.from_residual-in_err-i.result c.from_residual-in_err-i.ensures.1 in
    let both = next_both _ _ _ (ap drawn c.in_err-i.ensures ∙ sym (next_is _ _ p.0 p.1 c.if-self.false)) in
    rw (e.1, e.2) (record { answer = both.0; consistent_next = both.1 })

pub offset_bounds-list-i : goal.offset_bounds-list-i
offset_bounds-list-i c =
    let p = passed _ _ c.in_ok-test.ensures in
    record { fits = omega (arith, grown_index _ _ p.0 p.1 c.if-self.false _ _ _ c.in_ok-i.ensures) }

pub bounds-list-i : goal.bounds-list-i
bounds-list-i c =
    let p = passed _ _ c.in_ok-test.ensures in
    grown_index _ _ p.0 p.1 c.if-self.false _ _ _ c.in_ok-i.ensures

pub returns : goal.returns
returns c =
    let p = passed _ _ c.in_ok-test.ensures in
    let both = next_both _ _ _ (ap drawn c.in_ok-i.ensures ∙ sym (next_is _ _ p.0 p.1 c.if-self.false)) in
    record { answer = both.0; consistent_next = both.1 }
