-- Document 02, §1: the sheets of a plan stand at the places of their locations, as `PlanPlaces` (specs/PlanPlaces.antt) says.
-- Assumes nothing.
use mathlib.Core.Path.{◌≡◌, refl, sym, ap, ◌∙◌}
use mathlib.Core.List.{List, [], ◌∷◌, map}
use mathlib.Core.Option.{Option}
use Prim.Native.Nat.{ℕ, ◌^◌, ◌≤◌}
use native.Mathlib.Omega.{arith}
use borrow.Author.Tests.{ne_eqb}
use lib.ListN.{length, take, get_or}
use Rattle.answers.specs.Answers.{result}
use Rattle.answers.proofs.AnswerLaws.{not_said, said_same}
use Rattle.lists.specs.Lists.{has}
use Rattle.orders.specs.Orders.{P}
use Rattle.orders.proofs.PlaceLaws.{among_first, stands_first, kept_limit}
use Rattle.rounds.specs.Locations.{slot_of}
use Rattle.rounds.specs.Rounds.{reservoir_of}
use Rattle.rounds.specs.Ledgers.{Sheet, sheet, plan_from}
use Rattle.rounds.specs.PlanPlaces.{locations, place_in, AllPlanPlaces}
use Rattle.rounds.proofs.RoundLaws.{actives_of}
use Rattle.rounds.proofs.MadeLaws.{reached_kept}
use Rattle.rounds.proofs.MoveLaws.{plan_by_lem}

located : (f : ℕ → Option ℕ) (xs : List ℕ) → locations (map (λ x. sheet x (f x)) xs) ≡ xs
unfolding locations
located f [] = refl
located f (x ∷ xs) = ap (λ (ys : List ℕ). x ∷ ys) (located f xs)

-- the locations of the ledger's plan
planned : (key k n : ℕ) (A : List ℕ) (ss : List Sheet) → result ss ≡ plan_from key k n A → locations ss ≡ take k (P key n)
unfolding plan_from
planned key k n [] ss e = not_said 11 ss (sym e)
planned key k n (a ∷ A) ss e =
    let z : result ss ≡ result (map (λ x. sheet x (slot_of key x (a ∷ A))) (take k (P key n))) = rw (ne_eqb (length (a ∷ A)) 0 (λ z. omega arith)) at e in
    ap locations (said_same ss _ z) ∙ located (λ x. slot_of key x (a ∷ A)) (take k (P key n))

pub plan_places : AllPlanPlaces
plan_places s r ss p =
    let kept = reached_kept s r in
    let b : s.round.n ≤ 2 ^ 30 = kept_limit (reservoir_of s.round) s.list kept.list in
    let is : locations ss ≡ take s.round.k (P s.round.master_key s.round.n) = planned s.round.master_key s.round.k s.round.n (actives_of s) ss (plan_by_lem s kept (result ss) p) in record {
      planned = λ v h. ap (has v) is ∙ among_first s.round.master_key s.round.n b s.round.k v h;
      stands = λ v h q. ap (λ (xs : List ℕ). get_or xs (place_in s v) 0) is ∙ stands_first s.round.master_key s.round.n b s.round.k v h q;
    }
