-- The answers of the two calls that may refuse, by their cases: what a caller needs of them.
-- Assumes nothing.
use Rattle.std.proofs.Common.{◌≡◌, ℕ, ◌<◌, ◌≤◌, lt-ltb, le-leb}
use borrow.Author.Tests.{lt-leb}
use Rattle.answers.specs.Answers.{refusal, result}
use Rattle.layers.specs.Layer.{size, layer}
use Rattle.layers.specs.Calls.{layer_apply}
use Rattle.layers.specs.KeyedLayers.{keyed_layer, keyed}

pub apply_in : (j key x : ℕ) → j ≤ 14 → x < size j → layer_apply j key x ≡ result (layer j key x)
unfolding layer_apply
apply_in j key x h p = rw (le-leb j 14 h, lt-ltb x (size j) p)

pub keyed_in : (j key : ℕ) → j ≤ 14 → keyed j key ≡ result (keyed_layer j key)
unfolding keyed
keyed_in j key h = rw (le-leb j 14 h)

pub keyed_out : (j key : ℕ) → 14 < j → keyed j key ≡ refusal 12
unfolding keyed
keyed_out j key h = rw (lt-leb j 14 h)
