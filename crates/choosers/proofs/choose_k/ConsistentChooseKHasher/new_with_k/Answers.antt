-- `choosers::choose_k::ConsistentChooseKHasher::new_with_k` meets its contract.
-- Assumes nothing.
use mathlib.Core.Path.{◌≡◌, ap, ◌∙◌}
use Prim.Native.Nat.{ℕ, ◌^◌}
use lib.ListN.{length, take}
use lib.Seq.{length-take-le}
use borrow.Author.Tests.{lt-ltb, le-ltb}
use Rattle.std.proofs.lemmas.Result.{err_from_is_err_and}
use Rattle.answers.specs.Answers.{refused}
use Rattle.answers.proofs.MakingLaws.{Sizes, sizes_yes, sizes_no}
use Rattle.lists.specs.Lists.{written}
use Rattle.choosers.specs.Choosers.{S}
use Rattle.choosers.specs.ChooserCalls.{new_with_k_call}
use Rattle.choosers.proofs.SampleLaws.{length_S}
use Rattle.choosers.proofs.choose_k.ConsistentChooseKHasher.new_with_k.Goals as goal
use Rattle.choosers.proofs.choose_k.ConsistentChooseKHasher.new_with_k.Goals.{In_ok-test_sizes}

sizes : (c : In_ok-test_sizes) → Sizes (2 ^ 62) 0 c.args.k c.args.n
sizes c = sizes_yes _ _ _ _ _ c.in_ok-test_sizes.ensures

pub returns-in_err-test_sizes : goal.returns-in_err-test_sizes
unfolding new_with_k_call
returns-in_err-test_sizes c =
    let p = err_from_is_err_and c.from_residual.result c.from_residual.ensures.1 in
    rw (p.1, p.2) (sizes_no (2 ^ 62) 0 c.args.k c.args.n tt _ c.in_err-test_sizes.ensures (λ w. refused w c.args.list.now) _)

pub returns-then-list-k : goal.returns-then-list-k
unfolding new_with_k_call
returns-then-list-k c =
    let s = sizes (goal.at.returns-then-list-k c).In_ok-test_sizes in
    rw (le-ltb _ _ s.limited, le-ltb _ _ s.enough, le-ltb _ _ s.few, lt-ltb _ _ c.if-list-k.true)

pub returns : goal.returns
unfolding new_with_k_call written
returns c =
    let a = c.args in
    let s = sizes (goal.at.returns c).In_ok-test_sizes in
    let long : length (take a.k a.list.now) ≡ a.k = length-take-le a.k a.list.now c.if-list-k.false in
    let chosen : c.choose.new.list ≡ S a.state a.k a.n = c.choose.ensures ∙ ap (λ (k : ℕ). S a.state k a.n) long in
    rw (chosen, le-ltb _ _ s.limited, le-ltb _ _ s.enough, le-ltb _ _ s.few, le-ltb _ _ c.if-list-k.false, length_S a.state a.k a.n)
