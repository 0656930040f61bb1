-- Document 02, §1: the place of a location by the climb from its own layer, without a list.
-- Assumes nothing.
use mathlib.Core.Path.{◌≡◌, refl, sym, ap, ◌∙◌, subst, fun_ext}
use mathlib.Core.Bool.{Bool}
use mathlib.Core.List.{List, [], ◌∷◌}
use Prim.Native.Nat.{ℕ, zero, suc, ◌+◌, ◌-◌, ◌^◌, ◌≤◌, ◌<◌}
use native.Mathlib.Nat.{le_refl, one-le-pow}
use native.Mathlib.Omega.{arith}
use lib.ListN.{length, take, get_or}
use lib.Seq.{length-take-le}
use Rattle.std.specs.List.{position_or_len}
use Rattle.lists.specs.Lists.{keep, below, same, count_below, up_to, replace}
use Rattle.lists.proofs.Tests.{below_yes, below_no, by_below, by_same, same_yes, same_no}
use Rattle.lists.proofs.Counting.{order_once, order_occurrences, order_all}
use Rattle.lists.proofs.Keeping.{All, Stronger, all_keep, below_below}
use Rattle.lists.proofs.Prefixes.{keep_take_le}
use Rattle.lists.proofs.Positions.{same_first, position_of, position_up_to, position_replace, position_others, position_keep}
use Rattle.lists.proofs.Members.{occurrences_head}
use Rattle.lists.proofs.Listing.{listing_at}
use Rattle.lists.proofs.Replacing.{replace_count, replace_take, replace_front}
use Rattle.layers.specs.Layer.{size, layer}
use Rattle.layers.specs.Inverses.{input_of}
use Rattle.layers.proofs.InverseLaws.{input_lt, layers_undo}
use Rattle.orders.specs.Orders.{layer_of}
use Rattle.orders.specs.Reservoirs.{outputs, L}
use Rattle.orders.specs.InnerPasses.{arranged, climb}
use Rattle.orders.specs.Places.{place}
use Rattle.orders.proofs.LogLaws.{size_suc, layer_low, layer_fits, layer_least, layer_quarter}
use Rattle.orders.proofs.OrderLaws.{arranged_order, outputs_order, low_outputs, P_at}
use Rattle.orders.proofs.ZeroLaws.{zeros_below}

-- ---- lists

all_take : (p : ℕ → Bool) (u : ℕ) (xs : List ℕ) → All p xs → All p (take u xs)
all_take p zero xs a = tt
all_take p (suc u) [] a = tt
all_take p (suc u) (x ∷ xs) a = (a.0, all_take p u xs a.1)

-- replaced by entries that pass, as many entries pass a weaker test as before, also in a front part
front_count : (r q : ℕ → Bool) → Stronger r q → (t : ℕ) (xs olds : List ℕ) → All r olds → length (keep r xs) ≤ length olds
    → length (keep q (take t (replace r xs olds))) ≡ length (keep q (take t xs))
front_count r q s t xs olds a h =
    let u : ℕ = length (keep r (take t xs)) in
    let le : u ≤ length olds = omega (arith, keep_take_le r t xs) in
    ap (λ (l : List ℕ). length (keep q l)) (replace_take r t xs olds ∙ sym (replace_front r u (take t xs) olds (le_refl u)))
    ∙ replace_count r q s (take t xs) (take u olds) (all_take r u olds a) (length-take-le u olds le)

only_zero : (x : ℕ) → same 0 x ≡ below 1 x
only_zero x =
    by_same x 0
    (λ e. same_yes x 0 e ∙ sym (below_yes x 1 (omega arith)))
    (λ d. same_no x 0 d ∙ sym (below_no x 1 (by_below 0 x (λ l. l) (λ l. absurd (d (omega arith))))))

-- the layer of a number below n is none above that of n
pub layer_up : (n v : ℕ) → v < n → layer_of (suc v) ≤ layer_of n
layer_up n v h = layer_least (suc v) (layer_of n) (omega (arith, layer_fits n))

-- ---- where a number stands in what a layer gives

module _ (key : ℕ) where
  abbrev at : ℕ → ℕ → ℕ
  at m v = position_or_len (same v) (arranged key m)

  -- one layer up
  up_one : (i v : ℕ) → v < 4 ^ suc i → at (suc (suc i)) v ≡ L key (suc i) (suc (at (suc i) v)) - 1
  unfolding arranged
  up_one i v h =
      let p = below (4 ^ suc i) in
      let e = position_replace p v (below_yes v (4 ^ suc i) h) (outputs key (suc i)) (arranged key (suc i))
      (omega (arith, (arranged_order key (suc i)).size, low_outputs key (suc i))) (omega (arith, order_once (arranged_order key (suc i)) v h)) in
      omega (arith, e, zeros_below key (suc i) (suc (at (suc i) v)))

  climbs : (c i v : ℕ) → v < 4 ^ suc i → at (suc (i + c)) v ≡ climb key i (at (suc i) v) c
  unfolding climb
  climbs zero i v h = let e : i + 0 ≡ i = omega arith in rw e
  climbs (suc c) i v h =
      let e : i + suc c ≡ suc i + c = omega arith in
      rw e (climbs c (suc i) v (omega arith) ∙ ap (λ (t : ℕ). climb key (suc i) t c) (up_one i v h))

  -- in its own layer a number stands at the input that gives it
  own_input : (i v : ℕ) → v < size i → position_or_len (same v) (outputs key i) ≡ input_of i key v
  own_input i v h =
      let t : ℕ = input_of i key v in
      let l : t < size i = input_lt i key v h in
      let at : get_or (outputs key i) t 0 ≡ v = listing_at (layer i key) (size i) t l ∙ (layers_undo i key).forth v h in
      let e : position_or_len (same (get_or (outputs key i) t 0)) (outputs key i) ≡ t =
      position_of (outputs key i) (order_occurrences (outputs_order key i)) t (omega (arith, (outputs_order key i).size, size_suc i)) in
      subst (λ (x : ℕ). position_or_len (same x) (outputs key i) ≡ t) at e

  all_arranged : (i : ℕ) → All (below (4 ^ i)) (arranged key i)
  all_arranged i = order_all (arranged_order key i)

  own_place : (i v : ℕ) → 4 ^ i ≤ v → v < 4 ^ suc i → at (suc i) v ≡ input_of i key v
  unfolding arranged
  own_place i v lo hi =
      position_others (below (4 ^ i)) v (below_no v (4 ^ i) lo) (below_yes 0 (4 ^ i) (one-le-pow i 4 (omega arith))) (outputs key i) (arranged key i) (all_arranged i)
      ∙ own_input i v (omega (arith, size_suc i))

  -- and 0 stands at the 00 output of layer 0
  zero_place : at 1 0 ≡ input_of 0 key 0
  unfolding arranged
  zero_place =
      let many : 1 ≤ length (keep (below 1) (outputs key 0)) = omega (arith, low_outputs key 0) in
      let first : position_or_len (same 0) (0 ∷ []) ≡ 0 = same_first 0 0 [] refl in
      let a : suc (position_or_len (same 0) (replace (below 1) (outputs key 0) (0 ∷ []))) ≡ length (up_to (below 1) 1 (outputs key 0)) =
      position_replace (below 1) 0 (below_yes 0 1 (omega arith)) (outputs key 0) (0 ∷ []) many (occurrences_head 0 [])
      ∙ ap (λ (i : ℕ). length (up_to (below 1) (suc i) (outputs key 0))) first in
      let b : suc (position_or_len (below 1) (outputs key 0)) ≡ length (up_to (below 1) 1 (outputs key 0)) = position_up_to (below 1) (outputs key 0) many in
      let c : position_or_len (same 0) (outputs key 0) ≡ position_or_len (below 1) (outputs key 0) = ap (λ (p : ℕ → Bool). position_or_len p (outputs key 0)) (fun_ext only_zero) in
      let d : position_or_len (same 0) (outputs key 0) ≡ input_of 0 key 0 = own_input 0 0 (omega (arith, size_suc 0)) in
      omega (arith, a, b, c, d)

  -- a number's own layer: the one of the numbers up to it
  own : (v : ℕ) → at (suc (layer_of (suc v))) v ≡ input_of (layer_of (suc v)) key v
  own zero = rw (layer_low 1 (omega arith)) zero_place
  own (suc v) = own_place (layer_of (suc (suc v))) (suc v) (low (layer_of (suc (suc v))) refl) (omega (arith, layer_fits (suc (suc v))))
    where
      low : (i : ℕ) → i ≡ layer_of (suc (suc v)) → 4 ^ layer_of (suc (suc v)) ≤ suc v
      low zero e = rw (sym e) (omega arith)
      low (suc i) e =
          by_below (4 ^ suc i) (suc (suc v))
          (λ l. rw (sym e) (omega arith))
          (λ l. absurd (omega (arith, layer_least (suc (suc v)) i l)))

  -- ---- the whole

  -- where all but the numbers below n are dropped
  count_placed : (n j v : ℕ) → n ≤ 2 ^ 30 → 4 ^ j ≤ n → n ≤ 4 ^ suc j → v < n → place key n v ≡ count_below n (take (at (suc j) v) (outputs key j))
  unfolding place arranged
  count_placed n j v b lo hi h =
      ap (position_or_len (same v)) (P_at key n (suc j) b hi)
      ∙ position_keep (below n) v (below_yes v n h) (arranged key (suc j))
      ∙ front_count (below (4 ^ j)) (below n) (below_below lo) (at (suc j) v) (outputs key j) (arranged key j) (all_arranged j)
      (omega (arith, (arranged_order key j).size, low_outputs key j))

  pub placed_by_climb : (n v t : ℕ) → n ≤ 2 ^ 30 → v < n → t ≡ climb key (layer_of (suc v)) (input_of (layer_of (suc v)) key v) (layer_of n - layer_of (suc v))
      → place key n v ≡ count_below n (take t (outputs key (layer_of n)))
  placed_by_climb n v t b h e =
      let i : ℕ = layer_of (suc v) in
      let c : ℕ = layer_of n - i in
      let s : i + c ≡ layer_of n = omega (arith, layer_up n v h) in
      let g : at (suc (layer_of n)) v ≡ climb key i (at (suc i) v) c = ap (λ (m : ℕ). at (suc m) v) (sym s) ∙ climbs c i v (layer_fits (suc v)) in
      count_placed n (layer_of n) v b (layer_quarter n (omega arith)) (layer_fits n) h
      ∙ ap (λ (u : ℕ). count_below n (take u (outputs key (layer_of n)))) (g ∙ ap (λ (u : ℕ). climb key i u c) (own v) ∙ sym e)

  -- where the layer has no number of n or more none is dropped
  pub placed_whole : (n v t : ℕ) → n ≤ 2 ^ 30 → v < n → t ≡ climb key (layer_of (suc v)) (input_of (layer_of (suc v)) key v) (layer_of n - layer_of (suc v))
      → n ≡ size (layer_of n) → t < size (layer_of n) → place key n v ≡ t
  placed_whole n v t b h e full l =
      let j : ℕ = layer_of n in
      let xs : List ℕ = outputs key j in
      let all : All (below n) (take t xs) = all_take (below n) t xs (subst (λ (m : ℕ). All (below m) xs) (sym (full ∙ size_suc j)) (order_all (outputs_order key j))) in
      placed_by_climb n v t b h e
      ∙ ap length (all_keep (below n) (take t xs) all)
      ∙ length-take-le t xs (omega (arith, (outputs_order key j).size, size_suc j))
