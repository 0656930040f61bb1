-- `exports::xor_inputs` meets its contract.
-- Assumes nothing.
use Rattle.std.proofs.Common.{◌≡◌, ℕ, ◌≤◌}
use Rattle.layers.specs.Inverses.{input_of}
use Rattle.layers.specs.KeyedLayers.{keyed_layer}
use Rattle.layers.specs.Layer.{size}
use Rattle.exports.specs.Coded.{xors}
use Rattle.exports.proofs.xor_inputs.Given as goal

abbrev pub invariant-loop-y : goal.invariant-loop-y
invariant-loop-y l = (j key : ℕ) → j ≤ 14 → l.f ≡ keyed_layer j key → l.n ≤ size j → l.sum ≡ xors (input_of j key) l.y
