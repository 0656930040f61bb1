-- What the calls of a round reached say, refusals among it; above all never 12.
-- Assumes nothing.
use mathlib.Core.Path.{◌≡◌, sym, ap, ◌∙◌}
use mathlib.Core.Logic.{◌≢◌}
use mathlib.Core.Bool.{true, false, ◌||◌}
use mathlib.Core.List.{List}
use Prim.Native.Nat.{ℕ, ◌≤◌, min}
use native.Mathlib.Omega.{arith}
use lib.Dec.{leb, ltb, eqb}
use lib.ListN.{length}
use Rattle.answers.specs.Answers.{Answer, refusal, result, After}
use Rattle.lists.specs.Lists.{has}
use Rattle.answers.proofs.AnswerLaws.{not_said, refusal_same}
use Rattle.lists.proofs.Tests.{by_cond}
use Rattle.choosers.specs.SlotCalls as Slots
use Rattle.choosers.proofs.GetLaws.{get_slot}
use Rattle.rounds.specs.Locations.{state_of, slot_of}
use Rattle.rounds.specs.Rounds.{State, map_of}
use Rattle.rounds.specs.Ledgers.{Call, admit, join, withdraw, Ledger, due_in, free_slot, answer}
use Rattle.rounds.specs.Plans.{terminal_of, plan_call, PlanLists}
use Rattle.rounds.specs.Histories.{call}
use Rattle.rounds.specs.Demand3.{Reached, ledger_of}
use Rattle.rounds.specs.Outcomes.{too_short, reply, Outcomes}
use Rattle.rounds.proofs.RoundLaws.{actives_of, fits_kept}
use Rattle.rounds.proofs.PlanLaws.{terminal_slot}
use Rattle.rounds.proofs.MadeLaws.{reached_shows, reached_kept}
use Rattle.rounds.proofs.FormLaws.{refused_unchanged}
use Rattle.rounds.proofs.ReplyLaws.{reached_said}

-- A round reached is never refused 12: no call,
reply_not_12 : (g : Ledger) (places bytes : ℕ) (x : Call) → reply g places bytes x ≢ refusal 12
unfolding reply
reply_not_12 g places bytes admit =
    by_cond (λ (w : Answer (List ℕ)). w ≢ refusal 12) (too_short g places (due_in g)) _ _ (λ y e. let z : 4 ≡ 12 = refusal_same 4 12 e in omega arith) (λ n e. not_said 12 (answer g admit) (sym e))
reply_not_12 g places bytes join =
    by_cond (λ (w : Answer (List ℕ)). w ≢ refusal 12) (leb (min bytes Slots.slot_limit) (free_slot g)) _ _ (λ y e. let z : 9 ≡ 12 = refusal_same 9 12 e in omega arith) (λ n e. not_said 12 (answer g join) (sym e))
reply_not_12 g places bytes (withdraw x) =
    by_cond (λ (w : Answer (List ℕ)). w ≢ refusal 12) (has x g.A) _ _ (λ y e. not_said 12 (answer g (withdraw x)) (sym e)) (λ n e. let z : 10 ≡ 12 = refusal_same 10 12 e in omega arith)

replied : (s : State) (h : Reached s) (x : Call) → (call s x).answer ≡ reply (ledger_of h) (length s.list) (length s.table) x
replied s h = reached_said s h (ledger_of h) (reached_shows s h)

pub never_12 : (s : State) → Reached s → (x : Call) → (call s x).answer ≢ refusal 12
never_12 s h x e = reply_not_12 (ledger_of h) (length s.list) (length s.table) x (sym (replied s h x) ∙ e)

-- and no plan, whatever it is lent.
pub plan_never_12 : (s : State) → Reached s → (ls ts : List ℕ) (places : ℕ) → (plan_call s ls ts places).answer ≢ refusal 12
unfolding plan_call
plan_never_12 s r ls ts places =
    rw (fits_kept s (reached_kept s r))
    (by_cond (λ (a : After PlanLists (Unit {0})). a.answer ≢ refusal 12)
    (ltb (length ls) s.round.k || ltb (length ts) s.round.k || ltb places (min (length s.table) Slots.slot_limit)) _ _
    (λ y e. let z : 4 ≡ 12 = refusal_same 4 12 e in omega arith)
    (λ n. by_cond (λ (a : After PlanLists (Unit {0})). a.answer ≢ refusal 12) (eqb (length (actives_of s)) 0) _ _
    (λ y e. let z : 11 ≡ 12 = refusal_same 11 12 e in omega arith)
    (λ n e. not_said 12 tt (sym e))))

-- THE THEOREM
pub outcomes : Outcomes
outcomes = record { replied = replied; refused = λ s t x w. refused_unchanged; never_12 = never_12; plan_never_12 = plan_never_12 }

-- ---- the plan's slots are get's

-- On any round that fits its memory, with a slot active and scratch enough, get says the slot that stands in the plan.
pub plan_gets : (s : State) (x places : ℕ) → Slots.fitting (map_of s.round) s.table ≡ true → eqb (length (actives_of s)) 0 ≡ false
    → min (length s.table) Slots.slot_limit ≤ places → Slots.get_call (map_of s.round) s.table (state_of s.round.master_key x) places ≡ result (terminal_of s x)
unfolding slot_of
plan_gets s x places ok n enough =
    get_slot (map_of s.round) s.table (state_of s.round.master_key x) places ok enough
    ∙ ap Slots.or_none (sym (terminal_slot s n x))
