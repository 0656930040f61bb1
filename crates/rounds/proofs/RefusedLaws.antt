-- Demand 1 of each call, on any record, list and table: a refusal is one of its own, and leaves all that was lent as it was. Those that are
-- lent a scratch are taken by their promise, whose second clause speaks of it.
-- Assumes nothing.
use mathlib.Core.Path.{◌≡◌, refl, sym, subst}
use mathlib.Core.Bool.{◌||◌}
use mathlib.Core.List.{List, map}
use Prim.Native.Nat.{ℕ, ◌+◌, ◌*◌, min, ◌^◌}
use lib.Dec.{ltb, eqb}
use lib.ListN.{length}
use Rattle.std.specs.Prelude.{Result, Ok, Err}
use Rattle.answers.specs.Answers.{Answer, refusal, result, After, after}
use Rattle.lists.specs.Lists.{same, has, every}
use Rattle.answers.specs.Refusing.{Spares}
use Rattle.lists.proofs.Tests.{by_cond}
use Rattle.lists.proofs.Having.{has_more}
use Rattle.answers.proofs.Spared.{spared_mapped, spared_under, spared_within}
use Rattle.answers.specs.declared.Refusal.{Refusal}
use Rattle.answers.specs.Refusals.{answer_of}
use Rattle.answers.specs.Making.{short_refusal}
use Rattle.orders.specs.ReservoirCalls as Reservoir
use Rattle.orders.specs.ReservoirCalls.{reservoir_state}
use Rattle.orders.proofs.RefusedLaws as reservoirs
use Rattle.choosers.specs.Slots.{actives}
use Rattle.choosers.specs.SlotCalls as Slots
use Rattle.choosers.specs.SlotCalls.{slot_state}
use Rattle.choosers.proofs.RefusedLaws as slots
use Rattle.rounds.specs.declared.round.Round.{Round}
use Rattle.rounds.specs.Rounds.{State, reservoir_of, map_of, by_reservoir, by_slots, fitting, open_call, admit_call, join_call, withdraw_call}
use Rattle.rounds.specs.Plans.{plan_call, ScratchAfter, plan_lists, PlanLists}
use Rattle.rounds.specs.Ledgers.{Call}
use Rattle.rounds.specs.Replays.{run_of, opened_run, replay_call, ReplayScratch, ReplayMemory, replay_memory}
use Rattle.rounds.specs.RefusedBy.{open_refusals, admit_refusals, join_refusals, withdraw_refusals, plan_refusals, replay_refusals}
use Rattle.rounds.specs.Calls.{known, call_of}

-- ---- open, admit, join and withdraw

pub open_refuses : (key k n : ℕ) (l : List ℕ) → let a = open_call key k n l in Spares open_refusals a.answer l a.left
unfolding open_call
open_refuses key k n l = let o = Reservoir.open_call k n key l in spared_mapped _ open_refusals o.answer l o.left (reservoirs.open_refuses k n key l)

module _ (s : State) where
  abbrev Spared : List ℕ → {A : Type 0} → After State A → Type 0
  Spared ws a = Spares ws a.answer s a.left

  pub admit_refuses : let a = admit_call s in Spares admit_refusals a.answer s a.left
  unfolding admit_call has same
  admit_refuses =
      by_cond (Spared admit_refusals) (fitting s) _ _
      (λ fits. let a = Reservoir.admit_call (reservoir_of s.round) s.list in
      spared_under (λ b. (by_reservoir s (after a.answer b)).left) admit_refusals a.answer (reservoir_state (reservoir_of s.round) s.list) a.left
      (reservoirs.admit_refuses (reservoir_of s.round) s.list))
      (λ unfit. (refl, refl))

  pub join_refuses : let a = join_call s in Spares join_refusals a.answer s a.left
  unfolding join_call has same
  join_refuses =
      by_cond (Spared join_refusals) (fitting s) _ _
      (λ fits. let a = Slots.add_call (map_of s.round) s.table in
      spared_under (λ b. (by_slots s (after a.answer b)).left) join_refusals a.answer (slot_state (map_of s.round) s.table) a.left
      (slots.add_refuses (map_of s.round) s.table))
      (λ unfit. (refl, refl))

  pub withdraw_refuses : (x : ℕ) → let a = withdraw_call s x in Spares withdraw_refusals a.answer s a.left
  unfolding withdraw_call has same
  withdraw_refuses x =
      by_cond (Spared withdraw_refusals) (fitting s) _ _
      (λ fits. let a = Slots.remove_call (map_of s.round) s.table x in
      spared_under (λ b. (by_slots s (after a.answer b)).left) withdraw_refusals a.answer (slot_state (map_of s.round) s.table) a.left
      (slots.remove_refuses (map_of s.round) s.table x))
      (λ unfit. (refl, refl))

-- ---- plan

-- the two lists
pub plan_spares : (s : State) (ls ts : List ℕ) (places : ℕ) → let a = plan_call s ls ts places in Spares plan_refusals a.answer (plan_lists ls ts) a.left
unfolding plan_call has same
plan_spares s ls ts places =
    by_cond PlanSpared (fitting s) _ _
    (λ fits. by_cond PlanSpared (ltb (length ls) s.round.k || ltb (length ts) s.round.k || ltb places (min (length s.table) Slots.slot_limit)) _ _
    (λ short. (refl, refl))
    (λ long. by_cond PlanSpared (eqb (length (actives s.table s.round.total)) 0) _ _ (λ none. (refl, refl)) (λ some. tt)))
    (λ unfit. (refl, refl))
  where
    PlanSpared : After PlanLists (Unit {0}) → Type 0
    PlanSpared a = Spares plan_refusals a.answer (plan_lists ls ts) a.left

-- and the scratch
module _ (s : State) (ls ts ls' ts' before now : List ℕ) where
  pub plan_refuses : (o : Result (Unit {0}) Refusal) → after (answer_of o) (plan_lists ls' ts') ≡ plan_call s ls ts (length before) → ScratchAfter o before now
      → Spares {M = PlanLists × List ℕ} plan_refusals (answer_of o) (plan_lists ls ts, before) (plan_lists ls' ts', now)
  plan_refuses (Ok u) e k = tt
  plan_refuses (Err why) e k =
      let p = subst (λ (a : After PlanLists (Unit {0})). Spares plan_refusals a.answer (plan_lists ls ts) a.left) (sym e) (plan_spares s ls ts (length before)) in
      (p.0, (λ i. (p.1 i, k i)))

-- ---- replay

module _ (l t ws ls ts : List ℕ) where
  abbrev pub ReplaySpared : After ReplayMemory (Unit {0}) → Type 0
  ReplaySpared a = Spares replay_refusals a.answer (replay_memory l t ws ls ts) a.left

  opened_spares : (o : Answer Round) (l' : List ℕ) (xs : List Call) (places : ℕ) → Spares replay_refusals o l l'
      → ReplaySpared (opened_run o l' t xs ws ls ts places)
  unfolding run_of
  opened_spares (refusal w) l' xs places s = (s.0, (λ i. replay_memory (s.1 i) t ws ls ts))
  opened_spares (result r) l' xs places s = tt

  pub replay_spares : (key k n : ℕ) (codes : List ℕ) (places : ℕ) → ReplaySpared (replay_call key k n codes l t ws ls ts places)
  unfolding replay_call every has same
  replay_spares key k n codes places =
      by_cond ReplaySpared (every known codes) _ _
      (λ calls. by_cond ReplaySpared (ltb (length ws) (4 * length codes + 4)) _ _
      (λ short. (has_more (short_refusal (2 ^ 30) 1 k n) 12 open_refusals (reservoirs.short_refuses k n), refl))
      (λ long. let o = open_call key k n l in
      opened_spares o.answer o.left (map call_of codes) places
      (spared_within open_refusals replay_refusals o.answer l o.left refl (open_refuses key k n l))))
      (λ none. (refl, refl))

module _ (key k n : ℕ) (codes l t ws ls ts l' t' ws' ls' ts' before now : List ℕ) where
  pub replay_refuses : (o : Result (Unit {0}) Refusal)
      → after (answer_of o) (replay_memory l' t' ws' ls' ts') ≡ replay_call key k n codes l t ws ls ts (length before) → ReplayScratch o (length codes) ws' before now
      → Spares {M = ReplayMemory × List ℕ} replay_refusals (answer_of o)
      (replay_memory l t ws ls ts, before) (replay_memory l' t' ws' ls' ts', now)
  replay_refuses (Ok u) e k' = tt
  replay_refuses (Err why) e k' =
      let p = subst (ReplaySpared l t ws ls ts) (sym e) (replay_spares l t ws ls ts key k n codes (length before)) in
      (p.0, (λ i. (p.1 i, k' i)))
