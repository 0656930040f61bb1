-- `fields::cuts::cut` meets its contract.
-- Assumes nothing.
use mathlib.Core.Path.{sym, ap, ◌∙◌}
use Prim.Native.Nat.{min}
use Rattle.fields.proofs.CutLaws.{end_some, end_none, cut_open, cut_whole, cut_joined}
use Rattle.fields.proofs.cuts.cut.Goals as goal

pub returns-in_default : goal.returns-in_default
returns-in_default c =
    let e = c.keep-held.ensures in
    cut_open _ _ _ _ _ (end_none _ (sym c.line_feed.ensures ∙ c.in_default.is)) e.size e.holds

pub returns-then-held-eq0 : goal.returns-then-held-eq0
returns-then-held-eq0 c =
    let here = end_some c.args.piece.now _ (sym c.in-Some.ensures) in
    cut_whole _ _ _ _ _ here.0 here.1 c.if-held-eq0.true (c.min-size.ensures ∙ ap (min c.in-Some.end) c.min.ensures)

pub returns : goal.returns
returns c =
    let here = end_some c.args.piece.now _ (sym c.in-Some.ensures) in
    let e = c.keep-size.ensures in
    cut_joined _ _ _ _ _ here.0 here.1 _ c.if-held-eq0.false e.size e.holds
