-- `fields::texts::spell` meets its contract.
-- Assumes nothing.
use native.Mathlib.Omega.{arith}
use Rattle.fields.proofs.DecimalLaws.{decimal_pos}
use Rattle.fields.proofs.PutLaws.{spelling_start, spelling_more, spelling_first, spelling_list}
use Rattle.fields.proofs.texts.spell.Goals as goal

pub loop-i-init : goal.loop-i-init
loop-i-init c = (omega (arith, decimal_pos c.args.n, c.requires), spelling_start _ _ c.requires)

pub loop-i-preserved : goal.loop-i-preserved
loop-i-preserved c = let l = c.loop-i in (omega (arith, c.loop-i-test.true), spelling_more _ _ _ _ l.invariant.1 (omega arith) (omega arith) (omega arith))

pub overflow_cast-places-2 : goal.overflow_cast-places-2
overflow_cast-places-2 c = let l = c.loop-i in omega (arith, spelling_first _ _ l.i _ l.invariant.1 (omega (arith, l.invariant.0)) (omega arith))

pub overflow_add-places-2 : goal.overflow_add-places-2
overflow_add-places-2 c = let l = c.loop-i in omega (arith, spelling_first _ _ l.i _ l.invariant.1 (omega (arith, l.invariant.0)) (omega arith))

pub bounds-places-0 : goal.bounds-places-0
bounds-places-0 c = omega (arith, decimal_pos c.args.n)

pub returns : goal.returns
returns c = let l = c.loop-i in spelling_list _ _ l.i _ l.invariant.1 (omega (arith, l.invariant.0)) (omega (arith, decimal_pos c.args.n)) (omega arith)
