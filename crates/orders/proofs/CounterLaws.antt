-- The fifteen counters: what a passed test of refusal 12 says of each, and counters raised one after the other.
-- Assumes nothing.
use mathlib.Core.Path.{◌≡◌, refl, sym, ap, ◌∙◌}
use mathlib.Core.Bool.{Bool, true, false, ◌&&◌}
use mathlib.Core.List.{List}
use Prim.Native.Nat.{ℕ, zero, suc, ◌+◌, ◌-◌, ◌^◌, ◌≤◌, ◌<◌}
use native.Mathlib.Nat.{add-suc, add-zero, suc-add}
use native.Mathlib.Numerals.{add-one}
use native.Mathlib.Omega.{arith}
use borrow.Author.Tests.{leb-true, le-leb, lt-leb}
use lib.Dec.{leb}
use lib.ListN.{set}
use lib.Seq.{get_or-set_other}
use Rattle.lists.specs.Lists.{from, every}
use Rattle.lists.proofs.Keeping.{every_at}
use Rattle.layers.specs.Layer.{size}
use Rattle.orders.specs.Orders.{counter, counted}
use Rattle.orders.specs.OrderCalls.{within}
use Rattle.orders.specs.InnerCounters.{raises}
use Rattle.orders.proofs.LogLaws.{size_in}
use Rattle.orders.proofs.WalkLaws.{counted_set}

-- ---- the test

abbrev fitting : List ℕ → ℕ → Bool
fitting cs j = leb (counter cs j) (size j)

-- the test from layer i up
abbrev pub within_from : List ℕ → ℕ → Bool
within_from cs i = every (fitting cs) (from i (15 - i))

every_turn : (p : ℕ → Bool) (i n : ℕ) → i < n → every p (from i (n - i)) ≡ (p i && every p (from (i + 1) (n - (i + 1))))
unfolding every
every_turn p i n h =
    let e : n - i ≡ suc (n - (i + 1)) = omega arith in
    rw (e, add-one i) refl

pub from_start : (cs : List ℕ) → within_from cs 0 ≡ within cs
unfolding within
from_start cs = refl

pub from_turn : (cs : List ℕ) (i : ℕ) → i < 15 → counter cs i ≤ size i → within_from cs (i + 1) ≡ within_from cs i
from_turn cs i h l = sym (every_turn (fitting cs) i 15 h ∙ rw (le-leb (counter cs i) (size i) l) refl)

pub from_out : (cs : List ℕ) (i : ℕ) → i < 15 → size i < counter cs i → false ≡ within_from cs i
from_out cs i h l = sym (every_turn (fitting cs) i 15 h ∙ rw (lt-leb (counter cs i) (size i) l) refl)

pub from_end : (cs : List ℕ) (i : ℕ) → 15 ≤ i → true ≡ within_from cs i
unfolding every
from_end cs i h = let e : 15 - i ≡ 0 = omega arith in rw e refl

-- no counter is above its size
pub within_at : (cs : List ℕ) → within cs ≡ true → (i : ℕ) → i < 15 → counter cs i ≤ size i
unfolding within
within_at cs e i h = leb-true (counter cs i) (size i) (every_at (λ j. leb (counter cs j) (size j)) 0 15 i e (omega arith) h)

-- so one more of it is still a u32
pub within_limit : (cs : List ℕ) → within cs ≡ true → (i : ℕ) → i < 15 → counter cs i ≤ 2 ^ 30
within_limit cs e i h = omega (arith, within_at cs e i h, size_in i h)

-- ---- counters raised one after the other

-- to raise one changes no other
pub counted_other : (j i : ℕ) (cs : List ℕ) → j < i → counter (counted j cs) i ≡ counter cs i
unfolding counted
counted_other j i cs h = get_or-set_other cs j i (counter cs j + 1) 0 (omega arith)

-- the counters above those raised stay
pub raises_above : (c i k : ℕ) (cs : List ℕ) → i + c ≤ k → counter (raises cs i c) k ≡ counter cs k
raises_above zero i k cs h = refl
raises_above (suc c) i k cs h = raises_above c (suc i) k (counted i cs) (omega arith) ∙ counted_other i k cs (omega arith)

-- the last of them may be raised after the others
pub raises_snoc : (c i : ℕ) (cs : List ℕ) → raises cs i (suc c) ≡ counted (i + c) (raises cs i c)
raises_snoc zero i cs = rw (add-zero i) refl
raises_snoc (suc c) i cs = raises_snoc c (suc i) (counted i cs) ∙ rw (add-suc i c, suc-add i c) refl

-- a counter above them may be set before
pub raises_set : (c i t x : ℕ) (cs : List ℕ) → i + c ≤ t → raises (set cs t x) i c ≡ set (raises cs i c) t x
raises_set zero i t x cs h = refl
raises_set (suc c) i t x cs h =
    ap (λ (ds : List ℕ). raises ds (suc i) c) (counted_set 0 i t x cs (omega arith)) ∙ raises_set c (suc i) t x (counted i cs) (omega arith)

-- ---- the loop that raises them

-- those that it has still to raise are as they were, so a u32 holds them one higher
pub small_turn : (cs ds : List ℕ) (i top : ℕ) → ((k : ℕ) → i ≤ k → k < top → counter cs k ≤ 2 ^ 30) → ds ≡ counted i cs
    → (k : ℕ) → i + 1 ≤ k → k < top → counter ds k ≤ 2 ^ 30
small_turn cs ds i top h e k a b =
    let f : counter ds k ≡ counter cs k = ap (λ (l : List ℕ). counter l k) e ∙ counted_other i k cs (omega arith) in
    omega (arith, h k (omega arith) b)

pub raise_start : (cs : List ℕ) (low top x : ℕ) → low ≤ top → raises (set cs top x) low (top - low) ≡ set (raises cs low (top - low)) top x
raise_start cs low top x h = raises_set (top - low) low top x cs (omega arith)

pub raise_turn : (cs : List ℕ) (i top : ℕ) → i < top → raises cs i (top - i) ≡ raises (counted i cs) (i + 1) (top - (i + 1))
raise_turn cs i top h = let e : top - i ≡ suc (top - (i + 1)) = omega arith in rw (e, add-one i) refl

pub raise_end : (cs : List ℕ) (i top : ℕ) → top ≤ i → raises cs i (top - i) ≡ cs
raise_end cs i top h = let e : top - i ≡ 0 = omega arith in rw e refl
