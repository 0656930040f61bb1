-- `fields::texts::Text::cut_number` meets its contract.
-- Assumes nothing.
use Prim.Native.Nat.{ℕ}
use native.Mathlib.Omega.{arith}
use lib.ListN.{replicate, length-take}
use Rattle.fields.proofs.texts.Text.cut_number.Goals as goal

pub slice_bounds-spell-end : goal.slice_bounds-spell-end
slice_bounds-spell-end c = omega (arith, c.digits-count.ensures, length-take {A = ℕ} c.digits-count.result (replicate 10 0))

pub spell-requires : goal.spell-requires
spell-requires c = omega (arith, c.digits-count.ensures, length-take {A = ℕ} c.digits-count.result (replicate 10 0))
