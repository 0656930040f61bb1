-- `exports::xor_outputs` meets its contract.
-- Assumes nothing.
use Rattle.std.proofs.Common.{◌≡◌, ℕ, ◌≤◌}
use Rattle.layers.specs.Layer.{layer}
use Rattle.layers.specs.KeyedLayers.{keyed_layer}
use Rattle.exports.specs.Coded.{xors}
use Rattle.exports.proofs.xor_outputs.Given as goal

abbrev pub invariant-loop-x : goal.invariant-loop-x
invariant-loop-x l = (j key : ℕ) → j ≤ 14 → l.f ≡ keyed_layer j key → l.sum ≡ xors (layer j key) l.x
