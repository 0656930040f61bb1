-- `fields::inputs::one_line` meets its contract.
-- Assumes nothing.
use mathlib.Core.Path.{◌≡◌, sym, ap, ◌∙◌}
use mathlib.Core.Option.{some}
use Prim.Native.Nat.{ℕ}
use native.Mathlib.Omega.{arith}
use borrow.Author.Tests.{eqb-true, eqb-false}
use lib.ListN.{length, take}
use Rattle.std.specs.Prelude.{Option}
use Rattle.std.specs.Option.{unwrap_or}
use Rattle.fields.specs.Cuts.{end_of}
use Rattle.fields.proofs.CutLaws.{end_or}
use Rattle.fields.proofs.InputLaws.{only_empty, only_long, only_second, only_is}
use Rattle.fields.proofs.inputs.one_line.Goals.{After-unwrap_or-end, then-is_empty-via-then-is_empty, then-is_empty-via-else-is_empty+then-end-gt80, then-is_empty-via-else-is_empty+else-end-gt80+then-input-end-gt1}
use Rattle.fields.proofs.inputs.one_line.Goals as goal

-- the line ends there
ends_at : (c : After-unwrap_or-end) → c.unwrap_or-end.result ≡ end_of c.args.input.now
ends_at c =
    let l = c.args.input.now in
    c.unwrap_or-end.ensures ∙ ap (λ (o : Option ℕ). unwrap_or o (length l)) c.line_feed.ensures ∙ end_or l

pub returns-then-is_empty : goal.returns-then-is_empty
returns-then-is_empty c =
    let l = c.args.input.now in
    let e = ends_at (goal.at.returns-then-is_empty c).After-unwrap_or-end in
    elim c.then-is_empty.branch [
      | then-is_empty-via-then-is_empty w ↦ sym (only_empty l (eqb-true (length l) 0 (sym w.if-is_empty.ensures)))
      | then-is_empty-via-else-is_empty+then-end-gt80 w ↦ sym (only_long l (omega (arith, e, w.if-end-gt80.true)))
      | then-is_empty-via-else-is_empty+else-end-gt80+then-input-end-gt1 w ↦ sym (only_second l (omega (arith, e, w.if-input-end-gt1.true)))
    ]

pub returns : goal.returns
returns c =
    let l = c.args.input.now in
    let e = ends_at (goal.at.returns c).After-unwrap_or-end in
    ap (λ (n : ℕ). some (take n l)) e
    ∙ sym (only_is l (omega (arith, eqb-false (length l) 0 (sym c.if-is_empty.ensures))) (omega (arith, e)) (omega (arith, e)))
