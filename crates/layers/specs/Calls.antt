-- What `layer_apply` says.
-- Assumes nothing.
use Rattle.std.specs.Prelude.{ℕ, cond, nat_le, nat_lt}
use Rattle.answers.specs.Answers.{Answer, refusal, result}
use Rattle.layers.specs.Layer.{size, layer}

-- 12: "a layer above 14, or a layer's input not below its size"
unfoldable pub layer_apply : ℕ → ℕ → ℕ → Answer ℕ
layer_apply j key x = cond (nat_le j 14) (cond (nat_lt x (size j)) (result (layer j key x)) (refusal 12)) (refusal 12)
