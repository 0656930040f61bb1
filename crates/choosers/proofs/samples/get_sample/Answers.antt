-- `choosers::samples::get_sample` meets its contract.
-- Assumes nothing.
use Rattle.std.proofs.Common.{◌≡◌, ◌+◌, ◌-◌, Ok, Some, is_ok, is_some, ap, ◌∙◌, ℕ, arith, rules}
use Rattle.answers.proofs.BackLaws.{answer_some}
use Rattle.hashes.specs.Hashes.{feed}
use Rattle.hashes.specs.Calls.{prev_number, prev_call}
use Rattle.choosers.specs.Choosers.{g}
use Rattle.choosers.proofs.SampleLaws.{g_lt}
use Rattle.choosers.proofs.DrawLaws.{there}
use Rattle.choosers.proofs.samples.get_sample.Goals as goal
use Rattle.choosers.proofs.samples.get_sample.Goals.{After-prev, After-unwrap, After-unwrap-2}

-- the hasher's answer
drew : (c : After-prev) → c.prev.result ≡ Ok (Some (prev_number (feed c.args.state c.args.i) (c.args.n - c.args.i)))
drew c =
    let a = c.args in
    let e = ap (λ (s : ℕ). prev_call s (a.n - a.i)) (ap (λ h. h.state) c.new-hasher.ensures ∙ c.seq_builder.ensures) in
    answer_some _ _ (c.prev.ensures ∙ e ∙ there a.state a.i a.n (search rules) (search rules))

pub unwrap-requires : goal.unwrap-requires
unwrap-requires c = ap is_ok (drew (goal.at.unwrap-requires c).After-prev)

some_there : (c : After-unwrap) → c.unwrap.result ≡ Some (prev_number (feed c.args.state c.args.i) (c.args.n - c.args.i))
some_there c = let e = c.unwrap.ensures in let f = drew c.before in cc

pub unwrap-requires-2 : goal.unwrap-requires-2
unwrap-requires-2 c = ap is_some (some_there (goal.at.unwrap-requires-2 c).After-unwrap)

sampled : (c : After-unwrap-2) → c.args.i + c.unwrap-2.result ≡ g c.args.state c.args.i c.args.n
unfolding g
sampled c =
    let e = c.unwrap-2.ensures in
    let f = some_there c.before in
    let q : c.unwrap-2.result ≡ prev_number (feed c.args.state c.args.i) (c.args.n - c.args.i) = cc in
    ap (λ (y : ℕ). c.args.i + y) q

pub overflow_add-result : goal.overflow_add-result
overflow_add-result c =
    let a = c.args in
    omega (arith, sampled (goal.at.overflow_add-result c).After-unwrap-2, g_lt a.state a.i a.n (search rules))

pub returns : goal.returns
returns c = sampled (goal.at.returns c).After-unwrap-2
