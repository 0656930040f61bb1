-- Document 02, §1: the place of a location in P(n), and in the sample, as `Placed` and `SamplePlaces` (specs/Places.antt) say.
-- Assumes nothing.
use mathlib.Core.Path.{◌≡◌, sym, ap, ◌∙◌, subst}
use mathlib.Core.List.{List}
use Prim.Native.Nat.{ℕ, ◌^◌, ◌≤◌, ◌<◌}
use native.Mathlib.Omega.{arith}
use borrow.Author.Tests.{lt-ltb, le-ltb, ltb-true}
use lib.Dec.{ltb}
use lib.ListN.{take, get_or}
use lib.Seq.{get_or-take}
use Rattle.std.specs.List.{position_or_len}
use Rattle.answers.specs.Answers.{refusal, result}
use Rattle.answers.proofs.AnswerLaws.{not_said, said_same}
use Rattle.lists.specs.Lists.{same, has, occurrences}
use Rattle.lists.proofs.Tests.{by_below}
use Rattle.lists.proofs.Members.{has_yes, has_no}
use Rattle.lists.proofs.Prefixes.{occurrences_at}
use Rattle.lists.proofs.Positions.{position_of, at_position, before}
use Rattle.lists.proofs.Counting.{order_occurrences}
use Rattle.orders.specs.declared.consistent_reservoir.ConsistentReservoir.{ConsistentReservoir}
use Rattle.orders.specs.Orders.{P}
use Rattle.orders.specs.ReservoirCalls.{key_of, j_of, sample}
use Rattle.orders.specs.Admissions.{Kept}
use Rattle.orders.specs.Places.{place, place_call, AllPlaced, AllSamplePlaces}
use Rattle.orders.proofs.LogLaws.{size_limit}
use Rattle.orders.proofs.OrderLaws.{P_order, P_length, P_once, P_none}
use Rattle.orders.proofs.ReservoirLaws.{sample_is}

-- ---- the call's outcomes

pub place_above : (key n v : ℕ) → 2 ^ 30 < n → place_call key n v ≡ refusal 1
unfolding place_call
place_above key n v h = rw (lt-ltb (2 ^ 30) n h)

pub place_no : (key n v : ℕ) → n ≤ 2 ^ 30 → n ≤ v → place_call key n v ≡ refusal 13
unfolding place_call
place_no key n v b h = rw (le-ltb (2 ^ 30) n b, le-ltb v n h)

pub place_in : (key n v : ℕ) → n ≤ 2 ^ 30 → v < n → place_call key n v ≡ result (place key n v)
unfolding place_call
place_in key n v b h = rw (le-ltb (2 ^ 30) n b, lt-ltb v n h)

place_said : {C : Type 0} (key n v t : ℕ) → place_call key n v ≡ result t → (n ≤ 2 ^ 30 → v < n → place key n v ≡ t → C) → C
place_said key n v t e f =
    by_below (2 ^ 30) n
    (λ h. not_said 1 t (sym (place_above key n v h) ∙ e))
    (λ b. by_below v n
    (λ h. f b h (said_same (place key n v) t (sym (place_in key n v b h) ∙ e)))
    (λ h. not_said 13 t (sym (place_no key n v b h) ∙ e)))

-- ---- the place in P(n)

module _ (key n : ℕ) (b : n ≤ 2 ^ 30) where
  place_of : (t : ℕ) → t < n → place key n (get_or (P key n) t 0) ≡ t
  unfolding place
  place_of t h = position_of (P key n) (order_occurrences (P_order key n b)) t (omega (arith, P_length key n b))

  numbered : (t : ℕ) → t < n → get_or (P key n) t 0 < n
  numbered t h =
      let there : 0 < occurrences (get_or (P key n) t 0) (P key n) = occurrences_at (P key n) t (omega (arith, P_length key n b)) in
      by_below (get_or (P key n) t 0) n (λ l. l) (λ l. absurd (omega (arith, P_none key n (get_or (P key n) t 0) b l)))

  stands_at : (v : ℕ) → v < n → (place key n v < n) × (get_or (P key n) (place key n v) 0 ≡ v)
  unfolding place
  stands_at v h =
      let r = at_position v (P key n) (omega (arith, P_once key n v b h)) in
      (omega (arith, P_length key n b, r.0), r.1)

  pub among_first : (k v : ℕ) → v < n → has v (take k (P key n)) ≡ ltb (place key n v) k
  unfolding place
  among_first k v h =
      let r = before v k (P key n) (omega (arith, P_once key n v b h)) in
      let t = position_or_len (same v) (P key n) in
      by_below t k
      (λ l. has_yes v (take k (P key n)) (r.0 l) ∙ sym (lt-ltb t k l))
      (λ l. has_no v (take k (P key n)) (r.1 l) ∙ sym (le-ltb t k l))

  pub stands_first : (k v : ℕ) → v < n → place key n v < k → get_or (take k (P key n)) (place key n v) 0 ≡ v
  stands_first k v h p = get_or-take k (P key n) (place key n v) 0 p ∙ (stands_at v h).1

-- the whole claim
pub placed : AllPlaced
placed key n b = record {
  has_place = λ t h. place_in key n (get_or (P key n) t 0) b (numbered key n b t h) ∙ ap result (place_of key n b t h);
  at_place = λ v t e. place_said key n v t e (λ _ h f.
      let r = stands_at key n b v h in
      (subst (λ (z : ℕ). z < n) f r.0, ap (λ (i : ℕ). get_or (P key n) i 0) (sym f) ∙ r.1));
}

-- ---- the place in the sample

pub kept_limit : (r : ConsistentReservoir) (l : List ℕ) → Kept r l → r.n ≤ 2 ^ 30
kept_limit r l s = omega (arith, s.n_le, size_limit (j_of r) s.j_le)

pub sample_places : AllSamplePlaces
sample_places r l s =
    let b = kept_limit r l s in
    let is : sample r l ≡ take r.k (P (key_of r) r.n) = sample_is r l s in
    let sampled : (v : ℕ) → v < r.n → has v (sample r l) ≡ ltb (place (key_of r) r.n v) r.k =
    (λ v h. ap (has v) is ∙ among_first (key_of r) r.n b r.k v h) in record {
      sampled = sampled;
      stands = λ v h p. ap (λ (xs : List ℕ). get_or xs (place (key_of r) r.n v) 0) is ∙ stands_first (key_of r) r.n b r.k v h p;
      first = λ v w h g p e.
          let q : place (key_of r) r.n w < r.k = ltb-true _ _ (sym (sampled w g) ∙ e) in
          sampled v h ∙ lt-ltb _ _ (omega arith);
    }
