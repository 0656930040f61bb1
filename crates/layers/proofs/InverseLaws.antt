-- Document 02, §1: layer and inverse undo each other, as `Undo` and `CallsUndo` (specs/Inverses.antt) say. Nothing here goes by the layer's
-- number.
-- Assumes nothing.
use Rattle.std.proofs.Common.{◌≡◌, ℕ, ◌≤◌, ◌<◌, true, false, cond, ltb, leb, eqb, refl, sym, ap, ◌∙◌, subst, arith, lt-ltb, le-leb, eq-eqb, ne_eqb}
use mathlib.Core.Bool.{Bool}
use mathlib.Core.Option
use mathlib.Core.Option.{Option}
use borrow.Author.Tests.{ltb-true}
use Rattle.answers.specs.Answers.{refusal, result}
use Rattle.answers.proofs.AnswerLaws.{not_said, said_same}
use Rattle.lists.proofs.Searching.{first_some}
use Rattle.lists.proofs.Permutations.{injective}
use Rattle.layers.specs.Layer.{size, layer}
use Rattle.layers.specs.Calls.{layer_apply}
use Rattle.layers.specs.Inverses.{input_of, layer_invert, LayersUndo, CallsUndo}
use Rattle.layers.specs.Permutations.{unlayer}
use Rattle.layers.proofs.Permutes.{layer_lt, unlayer_lt, unlayer_layer, layer_unlayer, layer_permutes}

-- the rounds undone give the input
pub input_is : (j key y : ℕ) → y < size j → input_of j key y ≡ unlayer j key y
unfolding input_of
input_is j key y p =
    let v = unlayer j key y in
    let e = layer_unlayer j key y p in
    let w = unlayer_lt j key y in
    ap (λ (o : Option ℕ). Option.get_or o 0)
    (first_some (λ x. eqb (layer j key x) y) v 0 (size j) (omega arith) (omega (arith, w)) (eq-eqb (layer j key v) y e)
    (λ u a b. ne_eqb (layer j key u) y (λ f.
    let s : u ≡ v = injective (layer_permutes j key) u v (omega (arith, w)) w (f ∙ sym e) in
    omega arith)))

pub input_lt : (j key y : ℕ) → y < size j → input_of j key y < size j
input_lt j key y p = rw (input_is j key y p) (unlayer_lt j key y)

-- the whole claim
pub layers_undo : LayersUndo
layers_undo j key = record {
  back = λ x p. input_is j key (layer j key x) (layer_lt j key x) ∙ unlayer_layer j key x p;
  forth = λ y p. ap (layer j key) (input_is j key y p) ∙ layer_unlayer j key y p;
}

-- ---- the two calls, which make the same two tests

said : {C : Type 0} (a b : Bool) (x z : ℕ) → cond a (cond b (result x) (refusal 12)) (refusal 12) ≡ result z → (a ≡ true → b ≡ true → x ≡ z → C) → C
said true true x z e f = f refl refl (said_same x z e)
said true false x z e f = not_said 12 z e
said false b x z e f = not_said 12 z e

kept : (a b : Bool) (x y w : ℕ) → cond a (cond b (result x) (refusal 12)) (refusal 12) ≡ refusal w → cond a (cond b (result y) (refusal 12)) (refusal 12) ≡ refusal w
kept true true x y w e = not_said w x (sym e)
kept true false x y w e = e
kept false b x y w e = e

pub calls_undo : (j key : ℕ) → CallsUndo j key
unfolding layer_apply layer_invert
calls_undo j key = record {
  back = λ x y e. said (leb j 14) (ltb x (size j)) (layer j key x) y e
      (λ a b f. let l : y < size j = subst (λ (z : ℕ). z < size j) f (layer_lt j key x) in
      rw (a, lt-ltb y (size j) l) (ap result (ap (input_of j key) (sym f) ∙ (layers_undo j key).back x (ltb-true x (size j) b))));
  forth = λ x y e. said (leb j 14) (ltb y (size j)) (input_of j key y) x e
      (λ a b f. let l : x < size j = subst (λ (z : ℕ). z < size j) f (input_lt j key y (ltb-true y (size j) b)) in
      rw (a, lt-ltb x (size j) l) (ap result (ap (layer j key) (sym f) ∙ (layers_undo j key).forth y (ltb-true y (size j) b))));
  refused = λ z w e. kept (leb j 14) (ltb z (size j)) (layer j key z) (input_of j key z) w e;
  refuses = λ z w e. kept (leb j 14) (ltb z (size j)) (input_of j key z) (layer j key z) w e;
}

-- what a caller needs of it
pub invert_in : (j key y : ℕ) → j ≤ 14 → y < size j → layer_invert j key y ≡ result (input_of j key y)
unfolding layer_invert
invert_in j key y h p = rw (le-leb j 14 h, lt-ltb y (size j) p)
