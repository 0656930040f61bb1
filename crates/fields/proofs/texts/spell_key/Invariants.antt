-- The loop of `fields::texts::spell_key`.
-- Assumes nothing.
use mathlib.Core.Path.{◌≡◌}
use mathlib.Core.List.{[]}
use lib.ListN.{length, drop}
use Rattle.fields.specs.Printing.{spell_capitals}
use Rattle.fields.proofs.texts.spell_key.Given as goal

abbrev pub invariant-loop-i : goal.invariant-loop-i
invariant-loop-i l = (length l.places ≡ length l.initial.places) × (spell_capitals l.i l.left (drop l.i l.places) ≡ spell_capitals (length l.initial.places) l.key [])
