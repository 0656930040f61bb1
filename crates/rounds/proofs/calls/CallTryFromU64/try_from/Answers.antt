-- `rounds::calls::Call::try_from` meets its contract.
-- Assumes nothing.
use Rattle.std.proofs.Common.{refl, eq-eqb, ne_eqb}
use Rattle.rounds.specs.Calls.{known, call_of}
use Rattle.rounds.proofs.calls.CallTryFromU64.try_from.Goals as goal

pub returns-then-code-eq0 : goal.returns-then-code-eq0
unfolding known call_of
returns-then-code-eq0 c = let e = eq-eqb c.args.code 0 c.if-code-eq0.true in (rw e, rw e)

pub returns-then-code-eq1 : goal.returns-then-code-eq1
unfolding known call_of
returns-then-code-eq1 c =
    let e = ne_eqb c.args.code 0 c.if-code-eq0.false in
    let f = eq-eqb c.args.code 1 c.if-code-eq1.true in
    (rw (e, f), rw (e, f))

pub returns-then-code-ne1 : goal.returns-then-code-ne1
unfolding known
returns-then-code-ne1 c =
    let e = ne_eqb c.args.code 0 c.if-code-eq0.false in
    let f = ne_eqb c.args.code 1 c.if-code-eq1.false in
    (rw (e, f) (ne_eqb _ 1 c.if-code-ne1.true), refl)

pub returns : goal.returns
unfolding known call_of
returns c =
    let e = ne_eqb c.args.code 0 c.if-code-eq0.false in
    let f = ne_eqb c.args.code 1 c.if-code-eq1.false in
    (rw (e, f) (eq-eqb _ 1 c.if-code-ne1.false), rw (e, f))
