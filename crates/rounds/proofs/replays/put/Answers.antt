-- `rounds::replays::put` meets its contract.
-- Assumes nothing.
use Rattle.std.proofs.Common.{◌≡◌, ◌+◌, ◌-◌, ◌≤◌, ◌∙◌, length, drop, length-drop, length-take-le, arith, append_assoc}
use Rattle.std.proofs.Math.Seq.{drop-drop}
use Rattle.rounds.specs.InnerReplays.{placed_at}
use Rattle.rounds.proofs.replays.put.Goals as goal

pub returns : goal.returns
unfolding placed_at
returns c =
    let e : c.args.p + 4 - c.args.p ≡ 4 = omega arith in
    let q : 4 ≤ length (drop c.args.p c.args.answers.now) = rw (length-drop c.args.p c.args.answers.now) (omega (arith, c.requires)) in
    let n : length c.args.words ≡ 4 = rw (c.copy_from_slice.ensures.after, e) at c.copy_from_slice.ensures.len ∙ length-take-le 4 (drop c.args.p c.args.answers.now) q in
    rw (e, c.copy_from_slice.ensures.after, drop-drop 4 c.args.p c.args.answers.now, append_assoc, n)
