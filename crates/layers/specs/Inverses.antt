-- Document 02, §1: "A layer gets its inverse: the input that gives a stated output (12 if that isn't below the size). Layer and inverse
-- undo each other both ways at every layer, shown by one argument over the layer number." The proofs are in proofs/InverseLaws.antt.
-- Assumes nothing.
use Rattle.std.specs.Prelude.{◌≡◌, cond, ℕ, ◌<◌, nat_le, nat_lt, eqb}
use Rattle.std.proofs.Math.Option
use Rattle.answers.specs.Answers.{Answer, refusal, result}
use Rattle.lists.specs.Lists.{first_from}
use Rattle.layers.specs.Layer.{size, layer}
use Rattle.layers.specs.Calls.{layer_apply}

-- "the input that gives a stated output". Each output below the size has one (law `layers_undo`); 0 would stand for none.
unfoldable pub input_of : ℕ → ℕ → ℕ → ℕ
input_of j key y = Option.get_or (first_from (λ x. eqb (layer j key x) y) 0 (size j)) 0

-- `layer_invert`. 12: "a layer above 14"; "12 if that isn't below the size"
unfoldable pub layer_invert : ℕ → ℕ → ℕ → Answer ℕ
layer_invert j key y = cond (nat_le j 14) (cond (nat_lt y (size j)) (result (input_of j key y)) (refusal 12)) (refusal 12)

-- ---- what is proved

-- "Layer and inverse undo each other both ways"
pub record Undo (j key : ℕ) : Type 0 where
  pub back : (x : ℕ) → x < size j → input_of j key (layer j key x) ≡ x
  pub forth : (y : ℕ) → y < size j → layer j key (input_of j key y) ≡ y

-- "at every layer": law `layers_undo`, of any number j
abbrev pub LayersUndo : Type 0
LayersUndo = (j key : ℕ) → Undo j key

-- The same of the two calls, of any layer, key and number: each takes back what the other says, and both refuse the same. Law `calls_undo`.
pub record CallsUndo (j key : ℕ) : Type 0 where
  pub back : (x y : ℕ) → layer_apply j key x ≡ result y → layer_invert j key y ≡ result x
  pub forth : (x y : ℕ) → layer_invert j key y ≡ result x → layer_apply j key x ≡ result y
  pub refused : (z w : ℕ) → layer_apply j key z ≡ refusal w → layer_invert j key z ≡ refusal w
  pub refuses : (z w : ℕ) → layer_invert j key z ≡ refusal w → layer_apply j key z ≡ refusal w
