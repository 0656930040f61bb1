-- Document 01: "Layer j, 0 to 14, permutes 0..4^(j+1)." For every layer and key by one argument: nothing here goes by
-- the layer's number, the key is any number.
-- Assumes nothing.
use Rattle.std.proofs.Common.{◌≡◌, ℕ, ◌+◌, ◌*◌, ◌/◌, ◌%◌, ◌^◌, ◌<◌, ◌≤◌, eqb, length, sym, refl, ap, ◌∙◌, mod-lt, mod-eq_of_lt, arith, lit<, pow_pos, eq-eqb, ne_eqb}
use native.Mathlib.Nat.{div-eq_of_lt, pow-le-pow_right}
use lib.Pow.{split, high, low, mod-pow-add}
use Rattle.lists.specs.Lists.{keep, below, zero_to}
use Rattle.lists.proofs.Numbers.{four_pow_double}
use Rattle.lists.proofs.Tests.{by_below, below_yes, below_no}
use Rattle.lists.proofs.Keeping.{keep_same}
use Rattle.lists.proofs.Permutations.{inputs_below}
use Rattle.layers.specs.declared.feistel.Halves.{Halves}
use Rattle.layers.specs.Layer.{size, round_count, start, rounds, over, layer, top_bits}
use Rattle.layers.specs.InnerRounds.{Within}
use Rattle.layers.specs.Permutations.{under, last_key, back, unlayer, Permutes}
use Rattle.layers.proofs.RoundLaws.{start_within, rounds_within, over_lt}
use Rattle.layers.proofs.Inverse.{back_rounds, back_any, back_under, rounds_back, back_within}

-- ---- a number and its halves

pub over_start : (h key x : ℕ) → over h (start h key x) ≡ x % 4 ^ h
unfolding over start
over_start h key x =
    let e : h + h ≡ 2 * h = omega arith in
    sym (mod-pow-add x h h) ∙ ap (λ (i : ℕ). x % 2 ^ i) e ∙ ap (λ (n : ℕ). x % n) (sym (four_pow_double h))

pub start_over : (h key : ℕ) (s : Halves) → Within h s → start h key (over h s) ≡ under key s
unfolding over start
start_over h key s w =
    let e : (s.l * 2 ^ h + s.r) / 2 ^ h % 2 ^ h ≡ s.l = rw (high s.l h w.right) (mod-eq_of_lt w.left) in
    λ i. record { l = e i; r = low s.l h w.right i; key = key }

-- the key plays no part in the number
pub over_under : (h K : ℕ) (s : Halves) → over h (under K s) ≡ over h s
unfolding over
over_under h K s = refl

-- ---- the layer and its inverse

pub layer_lt : (j key x : ℕ) → layer j key x < size j
unfolding layer
layer_lt j key x = over_lt (j + 1) _ (rounds_within (j + 1) (round_count j) _ (start_within (j + 1) key x))

pub unlayer_lt : (j key y : ℕ) → unlayer j key y < size j
unfolding unlayer
unlayer_lt j key y = over_lt (j + 1) _ (back_within (j + 1) (round_count j) key _ (start_within (j + 1) key y))

undone : (h n key x : ℕ) → back h n key (rounds h n (start h key x)) ≡ start h key x
unfolding start
undone h n key x = back_rounds h n (start h key x)

pub unlayer_layer : (j key x : ℕ) → x < size j → unlayer j key (layer j key x) ≡ x
unfolding unlayer layer
unlayer_layer j key x p =
    let h = j + 1 in
    let n = round_count j in
    let s = rounds h n (start h key x) in
    ap (over h)
    (ap (back h n key) (start_over h key s (rounds_within h n _ (start_within h key x)))
    ∙ back_any h n key key s ∙ undone h n key x)
    ∙ over_start h key x ∙ mod-eq_of_lt p

pub layer_unlayer : (j key y : ℕ) → y < size j → layer j key (unlayer j key y) ≡ y
unfolding unlayer layer
layer_unlayer j key y p =
    let h = j + 1 in
    let n = round_count j in
    let s = start h key y in
    let b = back h n key s in
    ap (over h)
    (ap (rounds h n) (start_over h key b (back_within h n key s (start_within h key y)) ∙ back_under h n key s)
    ∙ rounds_back h n key s)
    ∙ over_under h (last_key h n key) s ∙ over_start h key y ∙ mod-eq_of_lt p

-- the whole claim
pub layer_permutes : (j key : ℕ) → Permutes j key
layer_permutes j key = record {
  stays = λ x p. layer_lt j key x;
  back_stays = λ y p. unlayer_lt j key y;
  undo = unlayer_layer j key;
  redo = layer_unlayer j key;
}

-- ---- the two top bits

above : (j y : ℕ) → 4 ^ j ≤ y → y / 2 ^ (2 * j) ≡ 0 → ⊥
above j y l e =
    let q : 0 * 2 ^ (2 * j) + y % 2 ^ (2 * j) ≡ y = rw e at (split y (2 * j)) in
    omega (arith, q, four_pow_double j, mod-lt y (pow_pos (2 * j)))

-- 00 says: below 4^j
pub top_zero : (j y : ℕ) → eqb (top_bits j y) 0 ≡ below (4 ^ j) y
unfolding top_bits
top_zero j y =
    by_below y (4 ^ j)
    (λ (l : y < 4 ^ j). eq-eqb (y / 2 ^ (2 * j)) 0 (div-eq_of_lt (rw four_pow_double at l)) ∙ sym (below_yes y (4 ^ j) l))
    (λ (l : 4 ^ j ≤ y). ne_eqb (y / 2 ^ (2 * j)) 0 (above j y l) ∙ sym (below_no y (4 ^ j) l))

-- exactly 4^j inputs have outputs with the two top bits 00
pub quarter : (j key : ℕ) → length (keep (λ x. eqb (top_bits j (layer j key x)) 0) (zero_to (size j))) ≡ 4 ^ j
quarter j key =
    ap length (keep_same _ _ (λ x. top_zero j (layer j key x)) (zero_to (size j)))
    ∙ inputs_below (layer_permutes j key) (4 ^ j) (pow-le-pow_right (lit< tt) (omega arith))
