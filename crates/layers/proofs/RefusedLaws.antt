-- Demand 1 of each call that may be refused: a refusal is one of its own. Neither is lent anything to write.
-- Assumes nothing.
use mathlib.Core.Path.{refl}
use Prim.Native.Nat.{ℕ}
use lib.Dec.{leb, ltb}
use Rattle.lists.specs.Lists.{same, has}
use Rattle.answers.specs.Refusing.{Among}
use Rattle.lists.proofs.Tests.{by_cond}
use Rattle.layers.specs.Layer.{size}
use Rattle.layers.specs.Calls.{layer_apply}
use Rattle.layers.specs.Inverses.{layer_invert}
use Rattle.layers.specs.KeyedLayers.{keyed}
use Rattle.layers.specs.RefusedBy.{keyed_refusals, apply_refusals, invert_refusals}

pub keyed_refuses : (j key : ℕ) → Among keyed_refusals (keyed j key)
unfolding keyed has same
keyed_refuses j key = by_cond (Among keyed_refusals) (leb j 14) _ _ (λ is. tt) (λ no. refl)

pub apply_refuses : (j key x : ℕ) → Among apply_refusals (layer_apply j key x)
unfolding layer_apply has same
apply_refuses j key x =
    by_cond (Among apply_refusals) (leb j 14) _ _
    (λ is. by_cond (Among apply_refusals) (ltb x (size j)) _ _ (λ below. tt) (λ not. refl))
    (λ no. refl)

pub invert_refuses : (j key y : ℕ) → Among invert_refusals (layer_invert j key y)
unfolding layer_invert has same
invert_refuses j key y =
    by_cond (Among invert_refusals) (leb j 14) _ _
    (λ is. by_cond (Among invert_refusals) (ltb y (size j)) _ _ (λ below. tt) (λ not. refl))
    (λ no. refl)
