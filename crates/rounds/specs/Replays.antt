-- `replay`: an open, a list of calls and a plan in one call, so that demand 3 stands in the promise of code that runs. How
-- answers are written as numbers; what replay says and leaves; and what its answers are by the ledger alone.
-- Assumes nothing.
use Rattle.std.specs.Prelude.{◌≡◌, ◌≢◌, cond, List, [], ◌∷◌, ◌++◌, map, ℕ, zero, suc, ◌+◌, ◌*◌, ◌^◌, ltb, eqb, length, get_or, take, drop, Result, Ok, Err}
use Rattle.answers.specs.Answers.{Answer, refusal, result, map_answer, After, after, refused}
use Rattle.lists.specs.Lists.{every, written}
use Rattle.answers.specs.declared.Refusal.{Refusal}
use Rattle.answers.specs.Making.{short_refusal}
use Rattle.rounds.specs.declared.round.Round.{Round}
use Rattle.rounds.specs.Rounds.{State, state, open_call}
use Rattle.rounds.specs.Ledgers.{Call, first_ledger, Sheet, ledger_plan, fed_all}
use Rattle.rounds.specs.Plans.{plan_call, shown_plan, plan_lists}
use Rattle.rounds.specs.Histories.{nothing_said, refusals, after_all, all_said}
use Rattle.rounds.specs.Demand3.{Agree, Enough}
use Rattle.rounds.specs.Calls.{known, call_of}

-- ---- answers as numbers

-- four a call: the refusal's number or 0, how many values there are, and two places for them, 0 where there is none
abbrev pub coded : Answer (List ℕ) → List ℕ
coded (refusal w) = w ∷ 0 ∷ 0 ∷ 0 ∷ []
coded (result vs) = 0 ∷ length vs ∷ get_or vs 0 0 ∷ get_or vs 1 0 ∷ []

abbrev pub coded_all : List (Answer (List ℕ)) → List ℕ
coded_all [] = []
coded_all (a ∷ ws) = coded a ++ coded_all ws

-- the answer that stands in the first four places,
unfoldable pub read_one : List ℕ → Answer (List ℕ)
read_one l = cond (eqb (get_or l 0 0) 0) (result (take (get_or l 1 0) (get_or l 2 0 ∷ get_or l 3 0 ∷ []))) (refusal (get_or l 0 0))

-- and those of so many calls, one after the other
unfoldable pub read_all : ℕ → List ℕ → List (Answer (List ℕ))
read_all zero l = []
read_all (suc c) l = read_one l ∷ read_all c (drop 4 l)

-- ---- what replay answers and leaves

-- all that it may write but the scratch
pub record ReplayMemory : Type 0 where
  pub list : List ℕ
  pub table : List ℕ
  pub answers : List ℕ
  pub locations : List ℕ
  pub terminals : List ℕ

abbrev pub replay_memory : List ℕ → List ℕ → List ℕ → List ℕ → List ℕ → ReplayMemory
replay_memory l t ws ls ts = record { list = l; table = t; answers = ws; locations = ls; terminals = ts }

-- The calls, and the plan after them, on a round s: each call's answer, a refusal too, and then the plan's, over the first places
-- of the answers' list.
unfoldable pub run_of : State → List Call → List ℕ → List ℕ → List ℕ → ℕ → After ReplayMemory (Unit {0})
run_of s xs ws ls ts places =
    let end = after_all s xs in
    let p = plan_call end ls ts places in
    after (result tt) (replay_memory end.list end.table (written (coded_all (all_said s xs) ++ coded (map_answer nothing_said p.answer)) ws) p.left.locations p.left.terminals)

-- a refused open is replay's refusal and changes nothing
abbrev pub opened_run : Answer Round → List ℕ → List ℕ → List Call → List ℕ → List ℕ → List ℕ → ℕ → After ReplayMemory (Unit {0})
opened_run (refusal w) l t xs ws ls ts places = refused w (replay_memory l t ws ls ts)
opened_run (result r) l t xs ws ls ts places = run_of (state r l t) xs ws ls ts places

-- 12: a number that is no call. Then open's refusals, its 4 also for an answers' list with fewer than four places for each call and four
-- for the plan. From then on it is not refused.
unfoldable pub replay_call : ℕ → ℕ → ℕ → List ℕ → List ℕ → List ℕ → List ℕ → List ℕ → List ℕ → ℕ → After ReplayMemory (Unit {0})
replay_call key k n codes l t ws ls ts places =
    let o = open_call key k n l in
    cond (every known codes)
    (cond (ltb (length ws) (4 * length codes + 4)) (refused (short_refusal (2 ^ 30) 1 k n) (replay_memory l t ws ls ts))
    (opened_run o.answer o.left t (map call_of codes) ws ls ts places))
    (refused 12 (replay_memory l t ws ls ts))

-- ---- the scratch

-- "the scratch is free after an accepted .. plan, unchanged after a refused one": the plan's answer stands behind those of c calls, and its
-- first place is 0 where it was accepted
abbrev pub ScratchRun : ℕ → List ℕ → List ℕ → List ℕ → Type 0
ScratchRun c ws before now = (length now ≡ length before) × (get_or ws (4 * c) 0 ≢ 0 → now ≡ before)

abbrev pub ReplayScratch : Result (Unit {0}) Refusal → ℕ → List ℕ → List ℕ → List ℕ → Type 0
ReplayScratch (Err why) c ws before now = now ≡ before
ReplayScratch (Ok u) c ws before now = ScratchRun c ws before now

-- ---- demand 3 of what replay leaves, in the ledger's terms alone

-- the plan as replay leaves it: its answer stands in place 4 · the number of calls
unfoldable pub planned_in : ℕ → ℕ → List ℕ → List ℕ → List ℕ → Answer (List Sheet)
planned_in k c ws ls ts = shown_plan k (after (map_answer (λ vs. tt) (read_one (drop (4 * c) ws))) (plan_lists ls ts))

-- Lent were a table of so many bytes, two lists and a scratch of so many places; after it stand the answers and the two lists:
-- each answer that is no refusal is the ledger's, fed with which calls were refused; and so is the plan after them.
pub record ByLedger (key k n : ℕ) (calls : List Call) (bytes places : ℕ) (ws ls ts : List ℕ) : Type 0 where
  pub said : Agree (first_ledger key k n) calls (read_all (length calls) ws)
  pub planned : Enough k bytes ls ts places
      → planned_in k (length calls) ws ls ts ≡ ledger_plan (fed_all (first_ledger key k n) calls (refusals (read_all (length calls) ws)))

-- where it was not refused
abbrev pub Replayed : Result (Unit {0}) Refusal → ℕ → ℕ → ℕ → List ℕ → ℕ → ℕ → List ℕ → List ℕ → List ℕ → Type 0
Replayed (Err why) key k n codes bytes places ws ls ts = Unit {0}
Replayed (Ok u) key k n codes bytes places ws ls ts = ByLedger key k n (map call_of codes) bytes places ws ls ts
