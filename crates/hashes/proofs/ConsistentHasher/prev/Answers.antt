-- `hashes::ConsistentHasher::prev` meets its contract.
-- Assumes nothing.
use mathlib.Core.Path.{◌≡◌, sym, ap, ◌∙◌}
use mathlib.Core.Option.{some}
use Prim.Native.Nat.{ℕ}
use native.Mathlib.Omega.{arith}
use Rattle.answers.specs.Answers.{result}
use Rattle.hashes.proofs.CallLaws.{limited_in, limited_out}
use Rattle.hashes.proofs.PrevLaws.{prev_none, prev_is}
use Rattle.hashes.proofs.ConsistentHasher.prev.Goals as goal

pub returns-then-n-gt-N_LIMIT : goal.returns-then-n-gt-N_LIMIT
returns-then-n-gt-N_LIMIT c = sym (limited_out c.args.n _ (omega arith))

pub returns-then-n-eq0 : goal.returns-then-n-eq0
returns-then-n-eq0 c =
    let n = c.args.n in
    let e : n ≡ 0 = c.if-n-eq0.true in
    sym (limited_in n _ (omega arith) ∙ ap result (rw e (prev_none _)))

pub returns : goal.returns
returns c =
    let a = c.args in
    ap (λ (x : ℕ). result (some x)) c.largest_below.ensures ∙ sym (limited_in a.n _ (omega arith) ∙ ap result (prev_is a.self.state a.n (omega arith)))
