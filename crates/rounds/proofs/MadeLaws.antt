-- Calls as code makes them follow the ledger: one step for every form of a call, and a list of them.
-- Assumes nothing.
use mathlib.Core.Path.{◌≡◌, sym, subst}
use mathlib.Core.List.{List, [], ◌∷◌, ◌++◌}
use Prim.Native.Nat.{ℕ}
use Rattle.std.proofs.Math.Path.{subst₂}
use Rattle.answers.specs.Refusals.{number, answer_of}
use Rattle.answers.specs.Answers.{Answer, refusal, is_refusal, after, After}
use Rattle.rounds.specs.Rounds.{State}
use Rattle.rounds.specs.Ledgers.{Call, Ledger, first_ledger, fed, fed_all}
use Rattle.rounds.specs.Histories.{Made, AllMade, made_none, made_next, refusals, call}
use Rattle.rounds.specs.Demand3.{Agree, Reached, ledger_of}
use Rattle.rounds.proofs.RoundLaws.{Kept, Shows, open_shows}
use Rattle.rounds.proofs.StepLaws.{Follows, step}
use Rattle.rounds.proofs.FormLaws.{made_is, call_made}

-- ---- a call so made, and the ledger

-- What is asked of every form of a call: it is the model's call, or it is refused, with its number, and changes nothing.
pub data Counts (s : State) (x : Call) (w : Answer (List ℕ)) (t : State) : Type 0 where
  as_call : after w t ≡ call s x → Counts s x w t
  as_none : (number : ℕ) → w ≡ refusal number → t ≡ s → Counts s x w t

pub made_counts : {s t : State} {x : Call} {w : Answer (List ℕ)} → Made s x w t → Counts s x w t
made_counts m = as_call (made_is m)

counts_step : {s t : State} {x : Call} {w : Answer (List ℕ)} (g : Ledger) → Shows s g → Counts s x w t → Follows g x w t
counts_step {s = s} {x = x} g h (as_call e) = subst (λ (a : After State (List ℕ)). Follows g x a.answer a.left) (sym e) (step s g h x)
counts_step {x = x} g h (as_none number answer_of left) = subst₂ (Follows g x) (sym answer_of) (sym left) (tt, h)

-- THE STEP: the answer is the ledger's where it is no refusal, and what stands after the call shows the ledger fed with it
pub made_step : {s t : State} {x : Call} {w : Answer (List ℕ)} (g : Ledger) → Shows s g → Made s x w t → Follows g x w t
made_step g h m = counts_step g h (made_counts m)

-- ---- a list of them

pub all_made_shows : {s u : State} {xs : List Call} {ws : List (Answer (List ℕ))} (g : Ledger) → Shows s g → AllMade s xs ws u → Agree g xs ws × Shows u (fed_all g xs (refusals ws))
unfolding Agree fed_all
all_made_shows g h (made_none s) = (tt, h)
all_made_shows g h (made_next {x = x} {w = w} m ms) =
    let one = made_step g h m in
    let rest = all_made_shows (fed g x (is_refusal w)) one.1 ms in
    ((one.0, rest.0), rest.1)

-- a round reached shows its ledger
pub reached_shows : (s : State) (h : Reached s) → Shows s (ledger_of h)
reached_shows s h = (all_made_shows (first_ledger h.key h.k h.n) (open_shows h.key h.k h.n h.start h.opens) h.made).1

pub reached_kept : (s : State) → Reached s → Kept s
reached_kept s h = (reached_shows s h).kept

-- one call more
all_made_snoc : {s t u : State} {xs : List Call} {ws : List (Answer (List ℕ))} {x : Call} {w : Answer (List ℕ)} → AllMade s xs ws t → Made t x w u
    → AllMade s (xs ++ (x ∷ [])) (ws ++ (w ∷ [])) u
all_made_snoc (made_none s) m = made_next m (made_none _)
all_made_snoc (made_next a rest) m = made_next a (all_made_snoc rest m)

pub reached_more : {s t : State} {x : Call} {w : Answer (List ℕ)} → Reached s → Made s x w t → Reached t
reached_more {x = x} {w = w} h m =
    record {
      key = h.key;
      k = h.k;
      n = h.n;
      start = h.start;
      opens = h.opens;
      calls = h.calls ++ (x ∷ []);
      answers = h.answers ++ (w ∷ []);
      made = all_made_snoc h.made m;
    }

-- the model's call
pub reached_call : (s : State) → Reached s → (x : Call) → Reached (call s x).left
reached_call s h x = reached_more h (call_made s x)
