-- `hashes::ConsistentHashRevIterator::next` meets its contract.
-- Assumes nothing.
use mathlib.Core.Option.{none, some}
use mathlib.Core.Path.{◌≡◌, sym, ap, ◌∙◌}
use Prim.Native.Nat.{ℕ}
use native.Mathlib.Omega.{arith}
use Rattle.hashes.specs.Hashes.{prev}
use Rattle.hashes.specs.Walks.{go_on_below}
use Rattle.hashes.proofs.CallLaws.{fall_in, fall_out}
use Rattle.hashes.proofs.PrevLaws.{prev_none, prev_is}
use Rattle.hashes.proofs.ConsistentHashRevIterator.next.Goals as goal

pub returns-then-self-gt-N_LIMIT : goal.returns-then-self-gt-N_LIMIT
returns-then-self-gt-N_LIMIT c = sym (fall_out c.args.self.now (omega arith))

pub returns-then-self-eq0 : goal.returns-then-self-eq0
returns-then-self-eq0 c =
    let w = c.args.self.now in
    let e : w.n ≡ 0 = c.if-self-eq0.true in
    let q : prev w.state w.n ≡ none = ap (prev w.state) e ∙ prev_none w.state in
    sym (fall_in w (omega arith) ∙ ap (go_on_below w) q)

pub returns : goal.returns
returns c =
    let w = c.args.self.now in
    ap (λ (x : ℕ). go_on_below w (some x)) c.largest_below-self.ensures ∙ sym (fall_in w (omega arith) ∙ ap (go_on_below w) (prev_is w.state w.n (omega arith)))
