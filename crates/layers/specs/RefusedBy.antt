-- The refusals of each call, in document 01's order. That it has no others is the law of its list in proofs/RefusedLaws.antt.
-- Assumes nothing.
use Rattle.std.specs.Prelude.{List, [], ◌∷◌, ℕ}

-- `KeyedLayer::new`. 12: "a layer above 14"
abbrev pub keyed_refusals : List ℕ
keyed_refusals = 12 ∷ []

-- `layer_apply`. 12: "a layer above 14, or a layer's input not below its size"
abbrev pub apply_refusals : List ℕ
apply_refusals = 12 ∷ []

-- `layer_invert`. 12: "a layer above 14"; 02, §1: "12 if that isn't below the size"
abbrev pub invert_refusals : List ℕ
invert_refusals = 12 ∷ []
