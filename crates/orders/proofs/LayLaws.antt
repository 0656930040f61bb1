-- An open in place: its length is found from the outputs of one layer, and the first u of the order of 0..4^m are laid down
-- from the layer below.
-- Assumes nothing.
use mathlib.Core.Path.{◌≡◌, refl, ap, sym, ◌∙◌}
use mathlib.Core.Bool.{Bool}
use mathlib.Core.List.{List, [], ◌∷◌, ◌++◌, append-nil}
use Prim.Native.Nat.{ℕ, zero, suc, ◌+◌, ◌-◌, ◌^◌, ◌<◌, ◌≤◌}
use native.Mathlib.Nat.{zero-add}
use native.Mathlib.Omega.{arith}
use lib.ListN.{length, take, drop, drop_of_length-le, set, length-append, length-take, length-drop}
use lib.Seq.{take_at, length-take-le, drop-append-add, drop-drop}
use Rattle.lists.specs.Lists.{below, up_to, replace, written}
use Rattle.lists.proofs.Tests.{below_yes}
use Rattle.lists.proofs.Keeping.{below_below, all_stronger}
use Rattle.lists.proofs.Counting.{order_all}
use Rattle.lists.proofs.Prefixes.{keep_take_le, up_to_take}
use Rattle.lists.proofs.Replacing.{replace_take, replace_same, up_to_replace_length}
use Rattle.layers.specs.Layer.{size}
use Rattle.orders.specs.Orders.{layer_of}
use Rattle.orders.specs.Reservoirs.{counts, outputs, opening}
use Rattle.orders.specs.InnerPasses.{outs, arranged, scan_of, rank_of, laid_of, arranged_over}
use Rattle.orders.proofs.LogLaws.{size_suc, layer_fits, layer_in, layer_quarter}
use Rattle.orders.proofs.OrderLaws.{arranged_order, low_outputs}
use Rattle.orders.proofs.CountsLaws.{counts_is}
use Rattle.orders.proofs.HeldLaws.{part, held_at, held_long}
use Rattle.orders.proofs.ReservoirLaws.{opening_held}
use Rattle.orders.proofs.CoverLaws.{take_outs, rank_le}

-- ---- the first u of P(4^m), laid down from the layer below

pub rank_fits : (key i u : ℕ) → u ≤ size i → rank_of key i u ≤ 4 ^ i
unfolding rank_of
rank_fits key i u h =
    rw (← take_outs key i 0 (size i) u h) (omega (arith, keep_take_le (below (4 ^ i)) u (outputs key i), low_outputs key i))

pub lay_none : (key u : ℕ) (l : List ℕ) (m : ℕ) → m ≡ 0 → take u (0 ∷ []) ++ drop u l ≡ arranged_over key m u l
unfolding arranged_over arranged
lay_none key u l m e = rw e

lay_up : (key i u t : ℕ) (l : List ℕ) → u ≤ size i → t ≡ rank_of key i u → laid_of key i u (arranged_over key i t l) ≡ arranged_over key (suc i) u l
unfolding laid_of arranged_over arranged rank_of
lay_up key i u t l h e =
    let f : t ≤ 4 ^ i = rw e (rank_fits key i u h) in
    let n : length (take t (arranged key i)) ≡ t = length-take-le t (arranged key i) (omega (arith, (arranged_order key i).size)) in
    let le : t ≤ u = rw e (rank_le key i u) in
    let s : t + (u - t) ≡ u = omega arith in
    let d : drop u (take t (arranged key i) ++ drop t l) ≡ drop u l =
    rw (← s) (ap (λ (z : ℕ). drop (z + (u - t)) (take t (arranged key i) ++ drop t l)) (sym n)
    ∙ drop-append-add (take t (arranged key i)) (drop t l) (u - t) ∙ drop-drop (u - t) t l) in
    let a : replace (below (4 ^ i)) (outs key i 0 u) (take t (arranged key i) ++ drop t l) ≡ replace (below (4 ^ i)) (outs key i 0 u) (arranged key i) =
    replace_same (below (4 ^ i)) t (outs key i 0 u) _ _ (omega arith) (take_at (take t (arranged key i)) (drop t l) t n) in
    let b : replace (below (4 ^ i)) (outs key i 0 u) (arranged key i) ≡ take u (replace (below (4 ^ i)) (outputs key i) (arranged key i)) =
    ap (λ (z : List ℕ). replace (below (4 ^ i)) z (arranged key i)) (sym (take_outs key i 0 (size i) u h)) ∙ sym (replace_take (below (4 ^ i)) u (outputs key i) (arranged key i)) in
    rw (a, b, d)

pub lay_more : (key m u t : ℕ) (l : List ℕ) → (m ≡ 0 → ⊥) → u ≤ 4 ^ m → t ≡ rank_of key (m - 1) u → laid_of key (m - 1) u (arranged_over key (m - 1) t l) ≡ arranged_over key m u l
lay_more key zero u t l z h e = absurd (z refl)
lay_more key (suc i) u t l z h e =
    let p : suc i - 1 ≡ i = omega arith in
    rw p (lay_up key i u t l (rw (size_suc i) h) (rw p at e))

pub length_arranged_over : (key m u : ℕ) (l : List ℕ) → u ≤ 4 ^ m → u ≤ length l → length (arranged_over key m u l) ≡ length l
unfolding arranged_over
length_arranged_over key m u l h k = simp (length-append, length-take, length-drop) (omega (arith, (arranged_order key m).size))

-- laid down over the first u alone, they are laid down over the list
pub arranged_front : (key m u : ℕ) (l : List ℕ) → u ≤ length l → arranged_over key m (length (take u l)) (take u l) ++ drop u l ≡ arranged_over key m u l
unfolding arranged_over
arranged_front key m u l h =
    let n : length (take u l) ≡ u = length-take-le u l h in
    let none : drop u (take u l) ≡ [] = drop_of_length-le (take u l) (omega (arith, n)) in
    rw (n, none, append-nil)

-- ---- the opening

-- A 00 output of the layer of n stands for a number below 4^j, which is below n: so it counts without a descent.
held_length : (key k n : ℕ) → 0 < n → (scan_of key (layer_of n) n k).inputs ≡ length (held_at key (suc (layer_of n)) k n)
unfolding scan_of arranged
held_length key k n h =
    let q : 4 ^ layer_of n ≤ n = layer_quarter n h in
    zero-add (length (up_to (below n) k (outputs key (layer_of n))))
    ∙ sym (up_to_replace_length (below n) (below (4 ^ layer_of n)) (below_yes 0 n h) (below_below q) k (outputs key (layer_of n)) (arranged key (layer_of n))
    (all_stronger (below (4 ^ layer_of n)) (below n) (below_below q) (arranged key (layer_of n)) (order_all (arranged_order key (layer_of n)))))
    ∙ ap (λ (p : ℕ → Bool). length (part p key (suc (layer_of n)) k)) (sym (counts_is n))

pub opening_length : (key k n : ℕ) → 0 < n → n ≤ 2 ^ 30 → (scan_of key (layer_of n) n k).inputs ≡ length (opening key k n)
opening_length key k n h b = held_length key k n h ∙ ap length (sym (opening_held key k n b))

pub opening_long : (key k n : ℕ) → n ≤ 2 ^ 30 → k ≤ n → k ≤ length (opening key k n)
opening_long key k n b h = rw (opening_held key k n b) (held_long key (suc (layer_of n)) k n (omega (arith, layer_in n b)) h (layer_fits n))

pub opening_fits : (key k n : ℕ) → n ≤ 2 ^ 30 → length (opening key k n) ≤ 4 ^ suc (layer_of n)
opening_fits key k n b =
    let xs : List ℕ = arranged key (suc (layer_of n)) in
    omega (
      arith,
      ap length (opening_held key k n b),
      ap length (up_to_take (counts n) k xs),
      length-take (length (up_to (counts n) k xs)) xs,
      (arranged_order key (suc (layer_of n))).size,
    )

pub opening_arranged : (key k n : ℕ) (l : List ℕ) → n ≤ 2 ^ 30 → arranged_over key (suc (layer_of n)) (length (opening key k n)) l ≡ written (opening key k n) l
unfolding arranged_over written
opening_arranged key k n l b =
    rw (opening_held key k n b)
    (ap (λ (z : List ℕ). z ++ drop (length (held_at key (suc (layer_of n)) k n)) l) (sym (up_to_take (counts n) k (arranged key (suc (layer_of n))))))

-- ---- in the code's terms

pub one_le : (m u : ℕ) → m ≡ 0 → u ≤ 4 ^ m → u ≤ 1
one_le m u e h = rw e at h

pub up_le : (m u : ℕ) → (m ≡ 0 → ⊥) → u ≤ 4 ^ m → u ≤ 4 ^ (m - 1 + 1)
up_le m u z h = let e : m - 1 + 1 ≡ m = omega arith in rw e h

pub down_le : (key m u t : ℕ) → (m ≡ 0 → ⊥) → u ≤ 4 ^ m → t ≡ rank_of key (m - 1) u → (t ≤ 4 ^ (m - 1)) × (t ≤ u)
down_le key m u t z h e = rw e (rank_fits key (m - 1) u (up_le m u z h), rank_le key (m - 1) u)

pub start_yes : (u : ℕ) (l : List ℕ) → u ≡ 1 → u ≤ length l → set l 0 0 ≡ take u (0 ∷ []) ++ drop u l
start_yes u [] e h = absurd (omega arith)
start_yes u (x ∷ l) e h = rw e

pub start_no : (u : ℕ) (l : List ℕ) → (u ≡ 1 → ⊥) → u ≤ 1 → l ≡ take u (0 ∷ []) ++ drop u l
start_no u l z h = let e : u ≡ 0 = omega arith in rw e
