-- Demand 1 of each call that may be refused, on any record and any list: a refusal is one of its own, and leaves the lent record and the
-- lent list as they were.
-- Assumes nothing.
use mathlib.Core.Path.{◌≡◌, refl}
use mathlib.Core.Bool.{true}
use mathlib.Core.List.{List, [], ◌∷◌}
use mathlib.Core.Option.{Option, none, some}
use Prim.Native.Nat.{ℕ, zero, suc, ◌-◌, ◌^◌, ◌≤◌}
use borrow.Author.Tests.{le-ltb}
use lib.Dec.{ltb, eqb}
use lib.ListN.{length}
use Rattle.answers.proofs.RefusedLaws as answers
use Rattle.answers.proofs.MakingLaws.{sizes_by}
use Rattle.answers.specs.Answers.{Answer, map_answer, After, refused}
use Rattle.answers.specs.Steps.{Step}
use Rattle.lists.specs.Lists.{below, same, has, every}
use Rattle.answers.specs.Refusing.{Among, Spares}
use Rattle.answers.specs.Making.{short_refusal}
use Rattle.lists.proofs.Tests.{by_cond}
use Rattle.answers.proofs.Spared.{spared_within}
use Rattle.orders.specs.declared.consistent_permutation.ConsistentPermutation.{ConsistentPermutation}
use Rattle.orders.specs.declared.consistent_reservoir.ConsistentReservoir.{ConsistentReservoir}
use Rattle.layers.specs.Layer.{size}
use Rattle.orders.specs.Orders.{layer_of, counter, next_number}
use Rattle.orders.specs.OrderCalls as Order
use Rattle.orders.specs.Reservoirs.{opening, wider}
use Rattle.orders.specs.ReservoirCalls.{key_of, j_of, fitting, open_call, exchange_by, exchange, admit_at, admit_call, grow_to, grow_layer_call, sample_call, ReservoirState, reservoir_state}
use Rattle.orders.specs.Places.{place_call}
use Rattle.orders.specs.RefusedBy.{order_refusals, place_refusals, order_next_refusals, walk_new_refusals, open_refusals, admit_refusals, grow_layer_refusals, sample_refusals}

-- ---- orders

pub order_refuses : (n key : ℕ) → Among order_refusals (Order.new_call n key)
unfolding Order.new_call has same
order_refuses n key = by_cond (Among order_refusals) (ltb (2 ^ 30) n) _ _ (λ above. refl) (λ not. tt)

pub started_refuses : (n key : ℕ) → Among order_refusals (Order.started_call n key).answer
unfolding Order.started_call has same
started_refuses n key = by_cond (λ (a : After ConsistentPermutation (Unit {0})). Among order_refusals a.answer) (ltb (2 ^ 30) n) _ _ (λ above. refl) (λ not. tt)

pub place_refuses : (key n v : ℕ) → Among place_refusals (place_call key n v)
unfolding place_call has same
place_refuses key n v =
    by_cond (Among place_refusals) (ltb (2 ^ 30) n) _ _
    (λ above. refl)
    (λ not. by_cond (Among place_refusals) (ltb v n) _ _ (λ below. tt) (λ no. refl))

module _ (o : ConsistentPermutation) where
  abbrev OrderSpared : Step ConsistentPermutation → Type 0
  OrderSpared s = Spares order_next_refusals s.answer o s.left

  abbrev WalkSpared : Step ConsistentPermutation → Type 0
  WalkSpared s = Spares (12 ∷ []) s.answer o s.left

  first_refuses : (j c : ℕ) (cs : List ℕ) → WalkSpared (Order.first_of o j c cs)
  unfolding has same
  first_refuses j zero cs = tt
  first_refuses j (suc c) cs =
      by_cond WalkSpared (Order.meets (Order.key_of o) j cs) _ _
      (λ met. (refl, refl))
      (λ not. by_cond WalkSpared (below o.n (next_number (Order.key_of o) j cs).number) _ _ (λ is. tt) (λ later. first_refuses j c _))

  pub order_next_refuses : let s = Order.next_call o in Spares order_next_refusals s.answer o s.left
  unfolding Order.next_call every has same
  order_next_refuses =
      by_cond OrderSpared (Order.within o.counters) _ _
      (λ fits. by_cond OrderSpared (ltb (2 ^ 30) o.n) _ _ (λ above. (refl, refl)) (λ not. by_cond OrderSpared (eqb o.n 0) _ _ (λ zero. tt)
      (λ some. let s = Order.first_of o (layer_of o.n) (size (layer_of o.n) - counter o.counters (layer_of o.n)) o.counters in
      spared_within (12 ∷ []) order_next_refusals s.answer o s.left refl (first_refuses (layer_of o.n) (size (layer_of o.n) - counter o.counters (layer_of o.n)) o.counters))))
      (λ unfit. (refl, refl))

  pub walk_new_refuses : Among walk_new_refusals (Order.walk_new_call o)
  unfolding Order.tested has same
  walk_new_refuses =
      by_cond Refused (Order.within o.counters) _ _ (λ fits. by_cond Refused (ltb (2 ^ 30) o.n) _ _ (λ above. refl) (λ not. tt)) (λ unfit. refl)
    where
      Refused : Answer (Unit {0}) → Type 0
      Refused t = Among walk_new_refusals (map_answer (λ u. o) t)

  -- an order that is walked passes the tests, as the ghost fields of `OrderWalk` say: 1 is not left
  pub walk_refused_12 : Order.within o.counters ≡ true → o.n ≤ 2 ^ 30 → let s = Order.next_call o in Spares (12 ∷ []) s.answer o s.left
  unfolding Order.next_call
  walk_refused_12 f h =
      rw (f, le-ltb (2 ^ 30) o.n h) (by_cond WalkSpared (eqb o.n 0) _ _ (λ zero. tt)
      (λ some. first_refuses (layer_of o.n) (size (layer_of o.n) - counter o.counters (layer_of o.n)) o.counters))

-- ---- reservoirs

-- the refusal of an open for which some memory is too short
pub short_refuses : (k n : ℕ) → has (short_refusal (2 ^ 30) 1 k n) open_refusals ≡ true
short_refuses k n = answers.short_refuses (2 ^ 30) 1 k n

pub open_refuses : (k n key : ℕ) (l : List ℕ) → let a = open_call k n key l in Spares open_refusals a.answer l a.left
unfolding open_call has same
open_refuses k n key l =
    sizes_by (2 ^ 30) 1 k n Spared (λ w. refused w l) _ (λ above. (refl, refl)) (λ none. (refl, refl)) (λ more. (refl, refl))
    (λ s. by_cond Spared (ltb (length l) (length (opening key k n))) _ _ (λ short. (refl, refl)) (λ long. tt))
  where
    Spared : After (List ℕ) ConsistentReservoir → Type 0
    Spared a = Spares open_refusals a.answer l a.left

module _ (r : ConsistentReservoir) (l : List ℕ) where
  abbrev Spared : List ℕ → {A : Type 0} → After ReservoirState A → Type 0
  Spared ws a = Spares ws a.answer (reservoir_state r l) a.left

  exchange_refuses : (i : ℕ) (xs : List ℕ) → Spared admit_refusals (exchange r i xs l)
  unfolding exchange exchange_by has same
  exchange_refuses i xs = by_cond (Spared admit_refusals) (ltb (length l) _) _ _ (λ short. (refl, refl)) (λ long. tt)

  wider_refuses : (o : Option ℕ) → Spared admit_refusals (admit_at r l o)
  wider_refuses none = tt
  wider_refuses (some i) = exchange_refuses i _

  pub admit_refuses : let a = admit_call r l in Spares admit_refusals a.answer (reservoir_state r l) a.left
  unfolding admit_call has same
  admit_refuses =
      by_cond (Spared admit_refusals) (fitting r l) _ _
      (λ fits. by_cond (Spared admit_refusals) (ltb r.k r.used) _ _ (λ more. exchange_refuses _ _) (λ same. wider_refuses (wider (key_of r) r.k (j_of r))))
      (λ unfit. (refl, refl))

  pub grow_layer_refuses : let a = grow_layer_call r l in Spares grow_layer_refusals a.answer (reservoir_state r l) a.left
  unfolding grow_layer_call grow_to has same
  grow_layer_refuses =
      by_cond (Spared grow_layer_refusals) (fitting r l) _ _
      (λ fits. by_cond (Spared grow_layer_refusals) (ltb r.k r.used) _ _ (λ waits. (refl, refl))
      (λ none. by_cond (Spared grow_layer_refusals) (eqb (j_of r) 14) _ _ (λ top. (refl, refl))
      (λ not. by_cond (Spared grow_layer_refusals) (ltb (length l) _) _ _ (λ short. (refl, refl)) (λ long. tt))))
      (λ unfit. (refl, refl))

  pub sample_refuses : (out : List ℕ) → let a = sample_call r l out in Spares sample_refusals a.answer out a.left
  unfolding sample_call has same
  sample_refuses out =
      by_cond SampleSpared (fitting r l) _ _
      (λ fits. by_cond SampleSpared (ltb (length out) r.k) _ _ (λ short. (refl, refl)) (λ long. tt))
      (λ unfit. (refl, refl))
    where
      SampleSpared : (After (List ℕ) (Unit {0})) → Type 0
      SampleSpared a = Spares sample_refusals a.answer out a.left
