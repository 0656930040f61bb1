-- `lines::sessions::Session::take_line` meets its contract.
-- Assumes nothing.
use mathlib.Core.Path.{sym, ◌∙◌}
use native.Mathlib.Omega.{arith}
use lib.ListN.{take}
use lib.Seq.{length-take-le}
use Rattle.fields.proofs.CutLaws.{cut_gives}
use Rattle.fields.specs.declared.cuts.Cutting.TheVariants.{Open, Whole, Joined}
use Rattle.lines.proofs.FeedLaws.{step_line, step_held}
use Rattle.lines.proofs.sessions.Session.take_line.Goals as goal

pub slice_bounds-answer-end : goal.slice_bounds-answer-end
slice_bounds-answer-end c =
    let a = c.args in
    let g = cut_gives a.bytes.now a.line.now a.self.now.held (omega (arith, c.requires)) (Whole c.in-Whole.size c.in-Whole.taken) c.cut.new.line c.in-Whole.ensures in
    sym (length-take-le c.in-Whole.size a.bytes.now g.1)

pub slice_bounds-answer-end-in-Joined : goal.slice_bounds-answer-end-in-Joined
slice_bounds-answer-end-in-Joined c =
    let a = c.args in
    (cut_gives a.bytes.now a.line.now a.self.now.held (omega (arith, c.requires)) (Joined c.in-Joined.size c.in-Joined.taken) c.cut.new.line c.in-Joined.ensures).0

pub slice_bounds-answer-end-in-Joined-2 : goal.slice_bounds-answer-end-in-Joined-2
slice_bounds-answer-end-in-Joined-2 c =
    let a = c.args in
    let g = cut_gives a.bytes.now a.line.now a.self.now.held (omega (arith, c.requires)) (Joined c.in-Joined.size c.in-Joined.taken) c.cut.new.line c.in-Joined.ensures in
    sym (length-take-le c.in-Joined.size c.cut.new.line g.0)

pub returns-in-Open-clause-steps : goal.returns-in-Open-clause-steps
returns-in-Open-clause-steps c =
    let a = c.args in
    let g = cut_gives a.bytes.now a.line.now a.self.now.held (omega (arith, c.requires)) (Open c.in-Open.held) c.cut.new.line c.in-Open.ensures in
    step_held a.bytes.now _ a.line.now a.text.now.out.now a.self.now.held a.text.now.len (omega (arith, c.requires)) c.cut.new.line c.in-Open.held g (omega (arith, c.requires)) (omega arith)

pub returns-in-Whole-clause-steps : goal.returns-in-Whole-clause-steps
returns-in-Whole-clause-steps c =
    let a = c.args in
    let g = cut_gives a.bytes.now a.line.now a.self.now.held (omega (arith, c.requires)) (Whole c.in-Whole.size c.in-Whole.taken) c.cut.new.line c.in-Whole.ensures in
    let e = c.answer.ensures in
    rw (e.held ∙ g.0)
    (step_line a.bytes.now _ a.line.now a.text.now.out.now a.self.now.held a.text.now.len (omega (arith, c.requires)) (take c.in-Whole.size a.bytes.now) c.in-Whole.taken g.2 _ _ _ _ (e.world_after, e.says))

pub returns-in-Joined-clause-steps : goal.returns-in-Joined-clause-steps
returns-in-Joined-clause-steps c =
    let a = c.args in
    let g = cut_gives a.bytes.now a.line.now a.self.now.held (omega (arith, c.requires)) (Joined c.in-Joined.size c.in-Joined.taken) c.cut.new.line c.in-Joined.ensures in
    let e = c.answer-in-Joined.ensures in
    rw e.held
    (step_line a.bytes.now _ a.line.now a.text.now.out.now a.self.now.held a.text.now.len (omega (arith, c.requires)) (take c.in-Joined.size c.cut.new.line) c.in-Joined.taken g.1 _ _ _ _ (e.world_after, e.says))
