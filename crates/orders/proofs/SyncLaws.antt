-- The counters that a walk from 0 reaches: each layer's counter is how often the layer above descended to it. So no descent
-- meets a counter at its size.
-- Assumes nothing.
use mathlib.Core.Path.{◌≡◌, refl, sym, ap, ◌∙◌}
use mathlib.Core.Bool.{true, false}
use mathlib.Core.List.{List, [], ◌∷◌, ◌++◌}
use Prim.Native.Nat.{ℕ, zero, suc, ◌+◌, ◌^◌, ◌≤◌, ◌<◌}
use native.Mathlib.Nat.{zero-add}
use native.Mathlib.Omega.{arith}
use borrow.Author.Tests.{lt-leb}
use lib.Dec.{leb}
use lib.ListN.{length, set, get_or-replicate}
use lib.Seq.{get_or-set_same, get_or-set_other}
use Rattle.lists.specs.Lists.{keep, below}
use Rattle.lists.proofs.Tests.{by_test, by_same}
use Rattle.lists.proofs.Prefixes.{keep_take_le, keep_snoc_yes, keep_snoc_no}
use Rattle.layers.specs.Layer.{size, layer}
use Rattle.orders.specs.Orders.{counter, none_counted, output, counted, zero_top, next_number}
use Rattle.orders.specs.Reservoirs.{outputs}
use Rattle.orders.specs.OrderCalls.{meets}
use Rattle.orders.specs.InnerPasses.{outs}
use Rattle.orders.proofs.LogLaws.{size_suc}
use Rattle.orders.proofs.WalkLaws.{zeros, next_length, next_low, next_high}
use Rattle.orders.proofs.OrderLaws.{zero_top_lem, low_outputs}
use Rattle.orders.proofs.CoverLaws.{outs_snoc, take_outs}

-- ---- how often a layer descends

zeros_yes : (key j a : ℕ) → zero_top j (layer j key a) ≡ true → zeros key j 0 (suc a) ≡ suc (zeros key j 0 a)
zeros_yes key j a y =
    ap (λ (l : List ℕ). length (keep (zero_top j) l)) (outs_snoc key j 0 a ∙ ap (λ (x : ℕ). outs key j 0 a ++ (layer j key x ∷ [])) (zero-add a))
    ∙ keep_snoc_yes (zero_top j) (outs key j 0 a) (layer j key a) y

zeros_no : (key j a : ℕ) → zero_top j (layer j key a) ≡ false → zeros key j 0 (suc a) ≡ zeros key j 0 a
zeros_no key j a m =
    ap (λ (l : List ℕ). length (keep (zero_top j) l)) (outs_snoc key j 0 a ∙ ap (λ (x : ℕ). outs key j 0 a ++ (layer j key x ∷ [])) (zero-add a))
    ∙ keep_snoc_no (zero_top j) (outs key j 0 a) (layer j key a) m

-- at most 4^j times
zeros_le : (key j a : ℕ) → a ≤ 4 ^ suc j → zeros key j 0 a ≤ 4 ^ j
zeros_le key j a h =
    let t : outs key j 0 a ≡ lib.ListN.take a (outputs key j) = sym (take_outs key j 0 (size j) a (omega (arith, size_suc j))) in
    let e : zeros key j 0 a ≡ length (keep (below (4 ^ j)) (lib.ListN.take a (outputs key j))) = (λ i. length (keep (zero_top_lem j i) (t i))) in
    omega (arith, keep_take_le (below (4 ^ j)) a (outputs key j), low_outputs key j)

-- ---- the counters of layers 0 to j, that of j being a

abbrev pub Synced : ℕ → ℕ → List ℕ → ℕ → Type 0
Synced key zero cs a = (counter cs 0 ≡ a) × (a ≤ 4)
Synced key (suc j) cs a = (counter cs (suc j) ≡ a) × (a ≤ 4 ^ suc (suc j)) × Synced key j cs (zeros key (suc j) 0 a)

pub synced_start : (key j : ℕ) → j ≤ 14 → Synced key j none_counted 0
synced_start key zero h = (refl, omega arith)
synced_start key (suc j) h = (get_or-replicate 15 (suc j) 0 0 (omega arith), omega arith, synced_start key j (omega arith))

pub synced_counter : (key j a : ℕ) (cs : List ℕ) → Synced key j cs a → (counter cs j ≡ a) × (a ≤ 4 ^ suc j)
synced_counter key zero a cs s = (s.0, s.1)
synced_counter key (suc j) a cs s = (s.0, s.1)

synced_set : (key j i v a : ℕ) (cs : List ℕ) → j < i → Synced key j cs a → Synced key j (set cs i v) a
synced_set key zero i v a cs h s = (get_or-set_other cs i 0 v 0 (omega arith) ∙ s.0, s.1)
synced_set key (suc j) i v a cs h s =
    (get_or-set_other cs i (suc j) v 0 (omega arith) ∙ s.0, s.1, synced_set key j i v (zeros key (suc j) 0 a) cs (omega arith) s.2)

-- every counter up to j is within its size
pub synced_le : (key j a : ℕ) (cs : List ℕ) → Synced key j cs a → (i : ℕ) → i ≤ j → counter cs i ≤ 4 ^ suc i
synced_le key zero a cs s i h = let z : i ≡ 0 = omega arith in rw z (omega (arith, s.0, s.1))
synced_le key (suc j) a cs s i h =
    by_same i (suc j)
    (λ e. rw e (omega (arith, s.0, s.1)))
    (λ d. synced_le key j (zeros key (suc j) 0 a) cs s.2 i (omega arith))

-- ---- one number

-- a number of layer j changes no counter above j
pub next_above : (key j i : ℕ) (cs : List ℕ) → j < i → counter (next_number key j cs).counters i ≡ counter cs i
unfolding counted
next_above key zero i cs h = get_or-set_other cs 0 i (counter cs 0 + 1) 0 (omega arith)
next_above key (suc j) i cs h =
    by_test (zero_top (suc j) (output key (suc j) cs))
    (λ y. rw y (next_above key j i (counted (suc j) cs) (omega arith) ∙ get_or-set_other cs (suc j) i (counter cs (suc j) + 1) 0 (omega arith)))
    (λ m. rw m (get_or-set_other cs (suc j) i (counter cs (suc j) + 1) 0 (omega arith)))

-- what is so after a number of layer j, whose counter was a, below its size
pub record Goes (key j a : ℕ) (cs : List ℕ) : Type 0 where
  pub meets_none : meets key j cs ≡ false
  pub synced : Synced key j (next_number key j cs).counters (suc a)

pub goes : (key j a : ℕ) (cs : List ℕ) → Synced key j cs a → a < 4 ^ suc j → j < length cs → Goes key j a cs
unfolding counted output
goes key zero a cs s h l = record {
  meets_none = lt-leb (size 0) (counter cs 0) (omega (arith, s.0));
  synced = (get_or-set_same cs 0 (counter cs 0 + 1) 0 l ∙ omega (arith, s.0), omega arith);
}
goes key (suc j) a cs s h l =
    let low : leb (size (suc j)) (counter cs (suc j)) ≡ false = lt-leb (size (suc j)) (counter cs (suc j)) (omega (arith, s.0, size_suc (suc j))) in
    by_test (zero_top (suc j) (layer (suc j) key a))
    (λ y. let y' : zero_top (suc j) (layer (suc j) key (counter cs (suc j))) ≡ true = ap (λ (x : ℕ). zero_top (suc j) (layer (suc j) key x)) s.0 ∙ y in
    let z : zeros key (suc j) 0 (suc a) ≡ suc (zeros key (suc j) 0 a) = zeros_yes key (suc j) a y in
    let lower : Goes key j (zeros key (suc j) 0 a) cs =
    goes key j (zeros key (suc j) 0 a) cs s.2 (omega (arith, z, zeros_le key (suc j) (suc a) h)) (omega arith) in
    let ds : List ℕ = (next_number key j cs).counters in
    let len : length ds ≡ length cs = next_length key j cs in
    record {
      meets_none = rw (low, y') lower.meets_none;
      synced = rw (next_low key j a cs s.0 y) (
        get_or-set_same ds (suc j) (suc a) 0 (omega arith),
        h,
        rw z (synced_set key j (suc j) (suc a) (suc (zeros key (suc j) 0 a)) ds (omega arith) lower.synced),
      );
    })
    (λ m. let m' : zero_top (suc j) (layer (suc j) key (counter cs (suc j))) ≡ false = ap (λ (x : ℕ). zero_top (suc j) (layer (suc j) key x)) s.0 ∙ m in
    let z : zeros key (suc j) 0 (suc a) ≡ zeros key (suc j) 0 a = zeros_no key (suc j) a m in
    record {
      meets_none = rw (low, m');
      synced = rw (next_high key j a cs s.0 m) (
        get_or-set_same cs (suc j) (suc a) 0 l,
        h,
        rw z (synced_set key j (suc j) (suc a) (zeros key (suc j) 0 a) cs (omega arith) s.2),
      );
    })
