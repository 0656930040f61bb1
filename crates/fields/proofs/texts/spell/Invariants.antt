-- The loop of `fields::texts::spell`.
-- Assumes nothing.
use Prim.Native.Nat.{◌<◌}
use Rattle.fields.proofs.PutLaws.{Spelling}
use Rattle.fields.proofs.texts.spell.Given as goal

abbrev pub invariant-loop-i : goal.invariant-loop-i
invariant-loop-i l = (0 < l.i) × Spelling l.n l.places l.i l.left
