-- The plan of a round that shows a ledger, with lists and scratch long enough: it is the ledger's.
-- Assumes nothing.
use mathlib.Core.Path.{◌≡◌, refl, ap, subst, fun_ext, ◌∙◌}
use mathlib.Core.Logic.{◌≢◌}
use mathlib.Core.Bool.{true, false, true≢false, cond}
use mathlib.Core.List.{List, [], ◌∷◌, map}
use mathlib.Core.Option.{Option, none, some, get_or}
use Prim.Native.Nat.{ℕ, min}
use borrow.Author.Tests.{le-ltb}
use lib.Dec.{eqb}
use lib.ListN.{length, length-map}
use Rattle.answers.specs.Answers.{refusal, result, after}
use Rattle.lists.specs.Lists.{written}
use Rattle.lists.proofs.Tests.{by_test}
use Rattle.lists.proofs.Having.{has_head}
use Rattle.lists.proofs.Writing.{written_take}
use Rattle.orders.proofs.ReservoirLaws.{sample_is, sample_length}
use Rattle.choosers.specs.Slots.{holder, slot_among}
use Rattle.choosers.specs.SlotCalls as Slots
use Rattle.choosers.proofs.SlotLaws.{holder_slot, slot_some}
use Rattle.rounds.specs.Locations.{state_of, slot_of}
use Rattle.rounds.specs.Rounds.{reservoir_of, State}
use Rattle.rounds.specs.Ledgers.{Ledger, Sheet, sheet, plan_from, ledger_plan}
use Rattle.rounds.specs.Plans.{sampled, terminal_of, plan_call, sheets, shown_plan, plan_lists}
use Rattle.rounds.specs.Demand3.{Enough}
use Rattle.rounds.proofs.RoundLaws.{Kept, actives_of, Shows, fits_kept}
use Rattle.rounds.proofs.LedgerLaws.{plan_of_same}

-- ---- the lists after it

sheets_map : (f : ℕ → ℕ) (xs : List ℕ) → sheets xs (map f xs) ≡ map (λ x. sheet x (some (f x))) xs
sheets_map f [] = refl
sheets_map f (x ∷ xs) = ap (λ (r : List Sheet). sheet x (some (f x)) ∷ r) (sheets_map f xs)

shown_refusal : (k w : ℕ) (ls ts : List ℕ) → shown_plan k (after (refusal w) (plan_lists ls ts)) ≡ refusal w
unfolding shown_plan
shown_refusal k w ls ts = refl

-- what stands in the first k places
pub shown_sheets : (k : ℕ) (f : ℕ → ℕ) (xs ls ts : List ℕ) → length xs ≡ k
    → shown_plan k (after (result tt) (plan_lists (written xs ls) (written (map f xs) ts))) ≡ result (map (λ x. sheet x (some (f x))) xs)
unfolding shown_plan
shown_sheets k f xs ls ts e =
    rw (written_take k xs ls e, written_take k (map f xs) ts (length-map xs f ∙ e)) (ap result (sheets_map f xs))

-- ---- where a slot is active, get gives one

some_of : (o : Option ℕ) → o ≢ none → some (get_or o 0) ≡ o
some_of none d = absurd (d refl)
some_of (some x) d = refl

first_active : (s : ℕ) (A : List ℕ) → eqb (length A) 0 ≡ false → slot_among s A ≢ none
first_active s [] e = absurd (let z : true ≡ false = e in true≢false z)
first_active s (x ∷ A) e = slot_some s (x ∷ A) x (has_head x A)

pub terminal_slot : (s : State) → eqb (length (actives_of s)) 0 ≡ false → (x : ℕ) → some (terminal_of s x) ≡ slot_of s.round.master_key x (actives_of s)
unfolding terminal_of slot_of
terminal_slot s e x =
    let state : ℕ = state_of s.round.master_key x in
    let is : holder state s.table s.round.total ≡ slot_among state (actives_of s) = holder_slot state s.table s.round.total in
    ap (λ (o : Option ℕ). some (get_or o 0)) is ∙ some_of (slot_among state (actives_of s)) (first_active state (actives_of s) e)

-- ---- the plan

module _ (s : State) (kept : Kept s) (ls ts : List ℕ) (places : ℕ) (enough : Enough s.round.k (length s.table) ls ts places) where
  -- 12 and 4 are not met
  accepted : plan_call s ls ts places
      ≡ cond (eqb (length (actives_of s)) 0) (after (refusal 11) (plan_lists ls ts)) (after (result tt) (plan_lists (written (sampled s) ls) (written (map (terminal_of s) (sampled s)) ts)))
  unfolding plan_call
  accepted =
      rw (
        fits_kept s kept,
        le-ltb (length ls) s.round.k enough.locations,
        le-ltb (length ts) s.round.k enough.terminals,
        le-ltb places (min (length s.table) Slots.slot_limit) enough.scratch,
      )

  pub own_plan : shown_plan s.round.k (plan_call s ls ts places) ≡ plan_from s.round.master_key s.round.k s.round.n (actives_of s)
  unfolding plan_from
  own_plan =
      ap (shown_plan s.round.k) accepted
      ∙ by_test (eqb (length (actives_of s)) 0)
      (λ y. rw y (shown_refusal s.round.k 11 ls ts))
      (λ n. rw n (
      shown_sheets s.round.k (terminal_of s) (sampled s) ls ts (sample_length (reservoir_of s.round) s.list kept.list)
      ∙ ap result ((λ i. map (slots n i) (sampled s)) ∙ ap (map (λ x. sheet x (slot_of s.round.master_key x (actives_of s)))) (sample_is (reservoir_of s.round) s.list kept.list))
      ))
    where
      slots : eqb (length (actives_of s)) 0 ≡ false → ◌≡◌ {A = ℕ → Sheet} (λ x. sheet x (some (terminal_of s x))) (λ x. sheet x (slot_of s.round.master_key x (actives_of s)))
      slots n = fun_ext (λ x. ap (sheet x) (terminal_slot s n x))

pub plan_is : (s : State) (g : Ledger) → Shows s g → (ls ts : List ℕ) (places : ℕ) → Enough g.k (length s.table) ls ts places
    → shown_plan g.k (plan_call s ls ts places) ≡ ledger_plan g
plan_is s g h =
    subst (λ (z : Ledger). (ls ts : List ℕ) (places : ℕ) → Enough z.k (length s.table) ls ts places → shown_plan z.k (plan_call s ls ts places) ≡ ledger_plan z) h.numbers
    (λ ls ts places e. own_plan s h.kept ls ts places e ∙ plan_of_same s.round.master_key s.round.k s.round.n (actives_of s) g.A h.set)
