-- The record of a layer, applied, is the layer.
-- Assumes nothing.
use Rattle.std.proofs.Common.{◌≡◌, ℕ, suc, ◌+◌, ◌-◌, ◌%◌, ◌<◌, arith}
use Rattle.layers.specs.Layer.{round_count, start, round_function, round, rounds, layer}
use Rattle.layers.specs.KeyedLayers.{keyed_layer, new_right, applied}
use Rattle.layers.proofs.FormulaLaws.{four_rounds}

-- the record's keys are those of the key schedule, so that its four rounds are the first four
scheduled : (j n key x : ℕ) → round_count j ≡ suc (suc (suc (suc n))) → (j + 1) % 16 ≡ j + 1 → applied (keyed_layer j key) x ≡ layer j key x
unfolding applied layer rounds round round_function new_right start
scheduled j n key x e p =
    let q : round_count j - 4 ≡ n = omega arith in
    rw (p, q, e)

pub keyed_layer_lem : (j key x : ℕ) → j < 15 → applied (keyed_layer j key) x ≡ layer j key x
keyed_layer_lem j key x p = scheduled j (round_count j - 4) key x (omega (arith, four_rounds j)) (omega arith)
