-- `fields::parts::apart` meets its contract.
-- Assumes nothing.
use native.Mathlib.Omega.{arith}
use Rattle.std.proofs.Common.{rules, tests}
use lib.Dec.{eqb}
use Rattle.fields.proofs.FieldLaws.{split_start, past_more, past_ends, past_is, past_not, parts_are, parts_more}
use Rattle.fields.proofs.parts.apart.Goals as goal

pub returns-in_default-next : goal.returns-in_default-next
returns-in_default-next c =
    let cut = c.split-fields.ensures in
    let p0 = split_start {s = c.split-fields.result} c.in-Some.ensures.steps.2 (λ b. eqb b 9) c.args.line.now cut.rest cut.done cut.closure (λ x r q k. search (rules, tests)) in
    let p1 = past_more p0 c.in-Some.a c.next.new.self c.in-Some.ensures.steps in
    parts_are c.args.line.now _ (past_ends p1 c.next-2.new.self c.in_default-next.ensures.steps) (omega arith)

pub returns-in_default-next-2 : goal.returns-in_default-next-2
returns-in_default-next-2 c =
    let cut = c.split-fields.ensures in
    let p0 = split_start {s = c.split-fields.result} c.in-Some.ensures.steps.2 (λ b. eqb b 9) c.args.line.now cut.rest cut.done cut.closure (λ x r q k. search (rules, tests)) in
    let p1 = past_more p0 c.in-Some.a c.next.new.self c.in-Some.ensures.steps in
    let p2 = past_more p1 c.in-Some-next.b c.next-2.new.self c.in-Some-next.ensures.steps in
    parts_are c.args.line.now _ (past_ends p2 c.next-3.new.self c.in_default-next-2.ensures.steps) (omega arith)

pub returns-in_default-next-3 : goal.returns-in_default-next-3
returns-in_default-next-3 c =
    let cut = c.split-fields.ensures in
    let p0 = split_start {s = c.split-fields.result} c.in-Some.ensures.steps.2 (λ b. eqb b 9) c.args.line.now cut.rest cut.done cut.closure (λ x r q k. search (rules, tests)) in
    let p1 = past_more p0 c.in-Some.a c.next.new.self c.in-Some.ensures.steps in
    let p2 = past_more p1 c.in-Some-next.b c.next-2.new.self c.in-Some-next.ensures.steps in
    let p3 = past_more p2 c.in-Some-next-2.c c.next-3.new.self c.in-Some-next-2.ensures.steps in
    parts_are c.args.line.now _ (past_ends p3 c.next-4.new.self c.in_default-next-3.ensures.steps) (omega arith)

pub returns-then-is_some : goal.returns-then-is_some
returns-then-is_some c =
    let cut = c.split-fields.ensures in
    let p0 = split_start {s = c.split-fields.result} c.in-Some.ensures.steps.2 (λ b. eqb b 9) c.args.line.now cut.rest cut.done cut.closure (λ x r q k. search (rules, tests)) in
    let p1 = past_more p0 c.in-Some.a c.next.new.self c.in-Some.ensures.steps in
    let p2 = past_more p1 c.in-Some-next.b c.next-2.new.self c.in-Some-next.ensures.steps in
    let p3 = past_more p2 c.in-Some-next-2.c c.next-3.new.self c.in-Some-next-2.ensures.steps in
    let p4 = past_more p3 c.in-Some-next-3.d c.next-4.new.self c.in-Some-next-3.ensures.steps in
    parts_more c.args.line.now _ (past_is p4 c.next-5.result c.next-5.new.self c.if-is_some.ensures c.next-5.ensures.steps).2 (omega arith)

pub returns : goal.returns
returns c =
    let cut = c.split-fields.ensures in
    let p0 = split_start {s = c.split-fields.result} c.in-Some.ensures.steps.2 (λ b. eqb b 9) c.args.line.now cut.rest cut.done cut.closure (λ x r q k. search (rules, tests)) in
    let p1 = past_more p0 c.in-Some.a c.next.new.self c.in-Some.ensures.steps in
    let p2 = past_more p1 c.in-Some-next.b c.next-2.new.self c.in-Some-next.ensures.steps in
    let p3 = past_more p2 c.in-Some-next-2.c c.next-3.new.self c.in-Some-next-2.ensures.steps in
    let p4 = past_more p3 c.in-Some-next-3.d c.next-4.new.self c.in-Some-next-3.ensures.steps in
    parts_are c.args.line.now _ (past_not p4 c.next-5.result c.next-5.new.self c.if-is_some.ensures c.next-5.ensures.steps) (omega arith)
