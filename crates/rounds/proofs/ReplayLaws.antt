-- What replay leaves is as demand 3 says, in the ledger's terms alone.
-- Assumes nothing.
use mathlib.Core.Path.{◌≡◌, refl, sym, ap, subst, ◌∙◌}
use mathlib.Core.Logic.{⊎_elim, ◌≢◌}
use mathlib.Core.Bool.{Bool, true, false, ◌||◌}
use mathlib.Core.List.{List, [], ◌∷◌, ◌++◌, map, append_assoc}
use Prim.Native.Nat.{ℕ, ◌+◌, ◌*◌, min, ◌^◌}
use native.Mathlib.Omega.{arith}
use Rattle.std.proofs.Math.Path.{subst₂}
use borrow.Author.Tests.{lt-ltb, le-ltb}
use lib.Dec.{ltb, eqb}
use lib.ListN.{length, drop, length-map}
use Rattle.answers.specs.Answers.{Answer, refusal, result, map_answer, is_refusal, After, after}
use Rattle.lists.specs.Lists.{every, written}
use Rattle.answers.proofs.AnswerLaws.{not_said}
use Rattle.lists.proofs.Tests.{by_below, by_cond}
use Rattle.lists.proofs.Writing.{length_written}
use Rattle.orders.proofs.ReservoirLaws.{sample_length}
use Rattle.std.specs.Prelude.{Result, Ok, Err}
use Rattle.answers.specs.declared.Refusal.{Refusal}
use Rattle.answers.specs.Refusals.{answer_of}
use Rattle.answers.specs.Making.{short_refusal}
use Rattle.choosers.specs.SlotCalls as Slots
use Rattle.rounds.specs.declared.round.Round.{Round}
use Rattle.rounds.specs.Rounds.{reservoir_of, State, state, open_call, fitting}
use Rattle.rounds.specs.Plans.{sampled, terminal_of, plan_call, shown_plan, PlanLists, plan_lists}
use Rattle.rounds.specs.Ledgers.{Call, admit, join, withdraw, Ledger, first_ledger, accept, ledger_plan, fed, fed_all}
use Rattle.rounds.specs.Histories.{nothing_said, Opens, refusals, call, after_all, all_said}
use Rattle.rounds.specs.Demand3.{Agree, Enough}
use Rattle.rounds.specs.Replays.{coded, coded_all, read_one, read_all, run_of, opened_run, replay_call, planned_in, ByLedger, Replayed, ReplayMemory, replay_memory}
use Rattle.rounds.specs.Calls.{call_of, known}
use Rattle.rounds.proofs.RoundLaws.{Kept, actives_of, Shows, open_shows}
use Rattle.rounds.proofs.StepLaws.{possible, Refuses, Takes, outcome, step, step_bytes}
use Rattle.rounds.proofs.PlanLaws.{plan_is}
use Rattle.rounds.proofs.FormLaws.{calls_made}
use Rattle.rounds.proofs.MadeLaws.{all_made_shows}
use Rattle.rounds.proofs.ReadLaws.{Readable, AllReadable, read_one_lem, read_all_lem, drop_all, answer_readable}

-- ---- every answer can be read

possible_some : (x : Call) → possible x ≢ 0
possible_some admit e = omega arith
possible_some join e = omega arith
possible_some (withdraw x) e = omega arith

one_readable : (s : State) (g : Ledger) → Shows s g → (x : Call) → Readable (call s x).answer
one_readable s g h x =
    ⊎_elim
    (λ (r : Refuses s g x (call s x)). subst (λ (a : After State (List ℕ)). Readable a.answer) (sym r.is) (possible_some x))
    (λ (t : Takes s g x (call s x)). subst Readable (sym t.answer_is) (answer_readable g x))
    (outcome s g h x)

all_readable : (calls : List Call) (s : State) (g : Ledger) → Shows s g → AllReadable (all_said s calls)
unfolding all_said
all_readable [] s g h = tt
all_readable (x ∷ xs) s g h = (one_readable s g h x, all_readable xs (call s x).left (fed g x (is_refusal (call s x).answer)) (step s g h x).1)

length_said : (calls : List Call) (s : State) → length (all_said s calls) ≡ length calls
unfolding all_said
length_said [] s = refl
length_said (x ∷ xs) s = omega (arith, length_said xs (call s x).left)

-- a plan's refusal has a number above 0
plan_readable : (s : State) (ls ts : List ℕ) (places : ℕ) → Readable (map_answer nothing_said (plan_call s ls ts places).answer)
unfolding plan_call
plan_readable s ls ts places =
    by_cond (λ (a : After PlanLists (Unit {0})). Readable (map_answer nothing_said a.answer)) (fitting s) _ _
    (λ y. by_cond (λ (a : After PlanLists (Unit {0})). Readable (map_answer nothing_said a.answer))
    (ltb (length ls) s.round.k || ltb (length ts) s.round.k || ltb places (min (length s.table) Slots.slot_limit)) _ _
    (λ y. (λ e. omega arith))
    (λ n. by_cond (λ (a : After PlanLists (Unit {0})). Readable (map_answer nothing_said a.answer)) (eqb (length (actives_of s)) 0) _ _
    (λ y. (λ e. omega arith))
    (λ n. tt)))
    (λ n. (λ e. omega arith))

answer_back : (w : Answer (Unit {0})) → map_answer (λ vs. tt) (map_answer nothing_said w) ≡ w
answer_back (refusal w) = refl
answer_back (result u) = refl

-- the lists keep their lengths
pub plan_lengths : (s : State) → Kept s → (ls ts : List ℕ) (places : ℕ)
    → (length (plan_call s ls ts places).left.locations ≡ length ls) × (length (plan_call s ls ts places).left.terminals ≡ length ts)
unfolding plan_call
plan_lengths s kept ls ts places =
    by_cond Same (fitting s) _ _
    (λ y. by_below (length ls) s.round.k
    (λ h. rw (lt-ltb (length ls) s.round.k h) (refl, refl))
    (λ a. by_below (length ts) s.round.k
    (λ h. rw (le-ltb (length ls) s.round.k a, lt-ltb (length ts) s.round.k h) (refl, refl))
    (λ b. by_cond Same (ltb (length ls) s.round.k || ltb (length ts) s.round.k || ltb places (min (length s.table) Slots.slot_limit)) _ _
    (λ y. (refl, refl))
    (λ n. by_cond Same (eqb (length (actives_of s)) 0) _ _
    (λ y. (refl, refl))
    (λ n. (length_written (sampled s) ls (omega (arith, long)), length_written (map (terminal_of s) (sampled s)) ts (omega (arith, long, length-map (sampled s) (terminal_of s)))))))))
    (λ n. (refl, refl))
  where
    Same : After PlanLists (Unit {0}) → Type 0
    Same a = (length a.left.locations ≡ length ls) × (length a.left.terminals ≡ length ts)

    long : length (sampled s) ≡ s.round.k
    long = sample_length (reservoir_of s.round) s.list kept.list

-- the table keeps its length, the ledger its k
all_bytes : (calls : List Call) (s : State) → length (after_all s calls).table ≡ length s.table
unfolding after_all
all_bytes [] s = refl
all_bytes (x ∷ xs) s = all_bytes xs (call s x).left ∙ step_bytes s x

accept_k : (g : Ledger) (x : Call) → (accept g x).k ≡ g.k
unfolding accept
accept_k g admit = refl
accept_k g join = refl
accept_k g (withdraw x) = refl

fed_all_k : (calls : List Call) (g : Ledger) (rs : List Bool) → (fed_all g calls rs).k ≡ g.k
unfolding fed_all
fed_all_k [] g rs = refl
fed_all_k (x ∷ xs) g [] = refl
fed_all_k (x ∷ xs) g (true ∷ rs) = fed_all_k xs g rs
fed_all_k (x ∷ xs) g (false ∷ rs) = fed_all_k xs (accept g x) rs ∙ accept_k g x

-- ---- a run of calls, and the plan after it

module _ (key k n : ℕ) (s : State) (o : Opens key k n s) (xs : List Call) (ws ls ts : List ℕ) (places : ℕ) where
  abbrev said : List (Answer (List ℕ))
  said = all_said s xs

  abbrev p : After PlanLists (Unit {0})
  p = plan_call (after_all s xs) ls ts places

  abbrev words : List ℕ
  words = coded_all said ++ coded (map_answer nothing_said p.answer)

  begins : Shows s (first_ledger key k n)
  begins = open_shows key k n s o

  abbrev g : Ledger
  g = fed_all (first_ledger key k n) xs (refusals said)

  follows : Agree (first_ledger key k n) xs said × Shows (after_all s xs) g
  follows = all_made_shows (first_ledger key k n) begins (calls_made xs s)

  kept : Kept (after_all s xs)
  kept = follows.1.kept

  is-k : g.k ≡ k
  is-k = fed_all_k xs (first_ledger key k n) (refusals said)

  -- the plan after them, with lists and scratch that are long enough for s
  is_planned : Enough k (length s.table) ls ts places → shown_plan k p ≡ ledger_plan g
  is_planned e =
      ap (λ (i : ℕ). shown_plan i p) (sym is-k)
      ∙ plan_is (after_all s xs) g follows.1 ls ts places (subst₂ (λ (i b : ℕ). Enough i b ls ts places) (sym is-k) (sym (all_bytes xs s)) e)

  one_by_one : written words ws ≡ coded_all said ++ (coded (map_answer nothing_said p.answer) ++ drop (length words) ws)
  unfolding written
  one_by_one = append_assoc (coded_all said) (coded (map_answer nothing_said p.answer)) (drop (length words) ws)

  reads : read_all (length xs) (written words ws) ≡ said
  reads =
      (λ i. read_all (sym (length_said xs s) i) (one_by_one i))
      ∙ read_all_lem said (coded (map_answer nothing_said p.answer) ++ drop (length words) ws) (all_readable xs s (first_ledger key k n) begins)

  reads_plan : map_answer (λ vs. tt) (read_one (drop (4 * length xs) (written words ws))) ≡ p.answer
  reads_plan =
      ap (λ (l : List ℕ). map_answer (λ vs. tt) (read_one l))
      ((λ i. drop (4 * sym (length_said xs s) i) (one_by_one i)) ∙ drop_all said (coded (map_answer nothing_said p.answer) ++ drop (length words) ws))
      ∙ ap (map_answer (λ vs. tt)) (read_one_lem (map_answer nothing_said p.answer) (drop (length words) ws) (plan_readable (after_all s xs) ls ts places))
      ∙ answer_back p.answer

  enough : Enough k (length s.table) p.left.locations p.left.terminals places → Enough k (length s.table) ls ts places
  enough e =
      let l = plan_lengths (after_all s xs) kept ls ts places in
      record { locations = omega (arith, l.0, e.locations); terminals = omega (arith, l.1, e.terminals); scratch = e.scratch }

  run_ledger : ByLedger key k n xs (length s.table) places (written words ws) p.left.locations p.left.terminals
  unfolding planned_in
  run_ledger =
      record {
        said = subst (λ (z : List (Answer (List ℕ))). Agree (first_ledger key k n) xs z) (sym reads) follows.0;
        planned = λ e.
            ap (λ (w : Answer (Unit {0})). shown_plan k (after w (plan_lists p.left.locations p.left.terminals))) reads_plan
            ∙ is_planned (enough e)
            ∙ ap (λ (z : List (Answer (List ℕ))). ledger_plan (fed_all (first_ledger key k n) xs (refusals z))) (sym reads);
      }

-- ---- replay

module _ (key k n : ℕ) (codes t ws ls ts : List ℕ) (places : ℕ) where
  -- demand 3 of what it leaves, where it is not refused
  abbrev Good : After ReplayMemory (Unit {0}) → Type 0
  Good a = a.answer ≡ result tt → ByLedger key k n (map call_of codes) (length t) places a.left.answers a.left.locations a.left.terminals

  refused_good : (w : ℕ) (a : After ReplayMemory (Unit {0})) → a.answer ≡ refusal w → Good a
  refused_good w a e q = not_said w tt (sym e ∙ q)

  opened_good : (o : After (List ℕ) Round) (l : List ℕ) → open_call key k n l ≡ o → Good (opened_run o.answer o.left t (map call_of codes) ws ls ts places)
  unfolding run_of
  opened_good o l e = by_answer o.answer (ap (λ (a : After (List ℕ) Round). a.answer) e)
    where
      by_answer : (w : Answer Round) → (open_call key k n l).answer ≡ w → Good (opened_run w o.left t (map call_of codes) ws ls ts places)
      by_answer (refusal w) q = refused_good w (opened_run (refusal w) o.left t (map call_of codes) ws ls ts places) refl
      by_answer (result r) q = λ h. run_ledger key k n (state r o.left t) (record { lent = l; accepted = (λ i. after (q i) (e i).left) }) (map call_of codes) ws ls ts places

  replay_good : (l : List ℕ) → Good (replay_call key k n codes l t ws ls ts places)
  unfolding replay_call
  replay_good l =
      by_cond Good (every known codes) _ _
      (λ each. by_cond Good (ltb (length ws) (4 * length codes + 4)) _ _
      (λ short. refused_good (short_refusal (2 ^ 30) 1 k n) (after (refusal (short_refusal (2 ^ 30) 1 k n)) (replay_memory l t ws ls ts)) refl)
      (λ long. opened_good (open_call key k n l) l refl))
      (λ unknown. refused_good 12 (after (refusal 12) (replay_memory l t ws ls ts)) refl)

-- the second clause of replay's promise follows from the first
pub replay_ledger : (key k n : ℕ) (codes l t ws ls ts : List ℕ) (places : ℕ) (o : Result (Unit {0}) Refusal) (l' t' ws' ls' ts' : List ℕ)
    → after (answer_of o) (replay_memory l' t' ws' ls' ts') ≡ replay_call key k n codes l t ws ls ts places
    → Replayed o key k n codes (length t) places ws' ls' ts'
replay_ledger key k n codes l t ws ls ts places (Err w) l' t' ws' ls' ts' e = tt
replay_ledger key k n codes l t ws ls ts places (Ok u) l' t' ws' ls' ts' e =
    subst (Good key k n codes t ws ls ts places) (sym e) (replay_good key k n codes t ws ls ts places l) refl
