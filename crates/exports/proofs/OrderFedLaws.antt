-- An order walked from its start, every number of which is fed to one state.
-- Assumes nothing.
use mathlib.Core.Path.{◌≡◌, refl, sym, ap, ◌∙◌}
use mathlib.Core.Bool.{true}
use mathlib.Core.Option.{Option}
use Prim.Native.Nat.{ℕ, suc, ◌+◌, ◌-◌, ◌^◌, ◌≤◌, ◌<◌}
use native.Mathlib.Numerals.{add-one}
use native.Mathlib.Omega.{arith}
use borrow.Author.Tests.{le-ltb}
use lib.ListN.{take}
use lib.Seq.{take-nil}
use Rattle.std.specs.Prelude.{Result, Ok, Err, is_ok}
use Rattle.answers.specs.Answers.{Answer, map_answer, after}
use Rattle.answers.proofs.Turns.{Turn, ended, gave}
use Rattle.answers.specs.declared.Refusal.{Refusal}
use Rattle.answers.specs.Refusals.{answer_of}
use Rattle.answers.proofs.BackLaws.{answer_ok}
use Rattle.orders.specs.declared.consistent_permutation.ConsistentPermutation.{ConsistentPermutation}
use Rattle.orders.specs.declared.order_walk.OrderWalk.{OrderWalk}
use Rattle.orders.specs.Orders.{none_counted, P}
use Rattle.orders.specs.OrderCalls.{order_of, new_call, next_call, walk_new_call}
use Rattle.orders.proofs.OrderWalks.{Going, rest_of, next_turn, going_new, going_tested, rest_new}
use Rattle.exports.specs.Coded.{fed_all}
use Rattle.exports.specs.InnerDigests.{fed_with}

-- ---- the order that is made, and its walk

-- no order is refused where n is within the limit
pub order_made : (n key : ℕ) (s : Result ConsistentPermutation Refusal) → answer_of s ≡ new_call n key → n ≤ 2 ^ 30 → s ≡ Ok (order_of key n none_counted)
unfolding new_call
order_made n key s e h = answer_ok s _ (rw (le-ltb (2 ^ 30) n h) at e)

pub order_is : (n key : ℕ) (s : Result ConsistentPermutation Refusal) (o : ConsistentPermutation) → answer_of s ≡ new_call n key → n ≤ 2 ^ 30 → s ≡ Ok o → o ≡ order_of key n none_counted
order_is n key s o e h m = let f = sym m ∙ order_made n key s e h in cc

-- nor the walk of an order that has gone from its start
abbrev pub Walks : Result OrderWalk Refusal → ConsistentPermutation → Type 0
Walks s o = map_answer (λ (w : OrderWalk). w.order) (answer_of s) ≡ walk_new_call o

pub walk_made : (o : ConsistentPermutation) (s : Result OrderWalk Refusal) → Walks s o → Going o → is_ok s ≡ true
walk_made o (Ok w) e g = refl
walk_made o (Err why) e g = let f = rw (going_tested o g) at e in let z : ◌≡◌ {A = ℕ} 0 1 = cc in absurd (omega arith)

pub walk_is : (o : ConsistentPermutation) (s : Result OrderWalk Refusal) (w : OrderWalk) → Walks s o → Going o → s ≡ Ok w → w.order ≡ o
walk_is o s w e g m = let f = rw (going_tested o g, m) at e in cc

-- ---- the loop

-- what the calls feed, in the i-th of them, of the order o after a state d
pub record Feeding (key n count i d : ℕ) (o : ConsistentPermutation) : Type 0 where
  pub going : Going o
  pub rest : fed_all d (take (count - i) (rest_of o)) ≡ fed_all 0 (take count (P key n))

pub feeding_new : (key n count : ℕ) → n ≤ 2 ^ 30 → Feeding key n count 0 0 (order_of key n none_counted)
feeding_new key n count h =
    let e : count - 0 ≡ count = omega arith in
    record { going = going_new key n h; rest = rw e (ap (λ xs. fed_all 0 (take count xs)) (rest_new key n h)) }

module _ (key n count i d : ℕ) (o : ConsistentPermutation) (f : Feeding key n count i d o) where
  turned : i < count → Turn next_call rest_of Going o → Feeding key n count (suc i) (fed_with d (next_call o).answer) (next_call o).left
  turned h (ended said stays nothing empty) =
      record { going = stays; rest = rw (said, nothing, take-nil {A = ℕ} (count - suc i)) (rw (empty, take-nil {A = ℕ} (count - i)) at f.rest) }
  turned h (gave x said more splits) =
      let e : count - i ≡ suc (count - suc i) = omega arith in
      record { going = more; rest = rw said (rw (splits, e) at f.rest) }

  -- a call that said g and left v, and the state e that it fed
  pub feeding_turn : (e : ℕ) (v : ConsistentPermutation) (g : Answer (Option ℕ)) → i < count → after g v ≡ next_call o → e ≡ fed_with d g → Feeding key n count (i + 1) e v
  feeding_turn e v g h p q =
      let t = turned h (next_turn o f.going) in rw (add-one i, q) (rw (← p) at t)

  pub feeding_end : count ≤ i → d ≡ fed_all 0 (take count (P key n))
  feeding_end h = let z : count - i ≡ 0 = omega arith in rw z at f.rest
