-- A fleet: terminals that work out the same round, each with a list and a table of its own; and when their answers and their plans stay
-- the same.
-- Assumes nothing.
use Rattle.std.specs.Prelude.{◌≡◌, ◌≢◌, Bool, true, false, cond, ◌||◌, List, [], ◌∷◌, ℕ, length}
use Rattle.answers.specs.Answers.{Answer, refusal, result}
use Rattle.orders.specs.ReservoirCalls.{listed}
use Rattle.rounds.specs.Rounds.{State, reservoir_of}
use Rattle.rounds.specs.Ledgers.{Call, admit, join, withdraw, Sheet}
use Rattle.rounds.specs.Histories.{Opens, after_all, all_said}
use Rattle.rounds.specs.Demand3.{Reached, PlanOf, Alike}

-- ---- what two terminals have in common

-- the same answers to a list of calls, refusals among them; after it they are alike still, and have the same plan
pub record SameAfter (s t : State) (calls : List Call) : Type 0 where
  pub answers : all_said s calls ≡ all_said t calls
  pub alike : Alike (after_all s calls) (after_all t calls)
  pub plans : (p q : Answer (List Sheet)) → PlanOf (after_all s calls) p → PlanOf (after_all t calls) q → p ≡ q

-- no answer is refusal 4 or 9
abbrev pub NeverShort : List (Answer (List ℕ)) → Type 0
NeverShort [] = Unit {0}
NeverShort (w ∷ ws) = (w ≢ refusal 4) × (w ≢ refusal 9) × NeverShort ws

-- whether a call is an admit that said none
abbrev pub is_none : Call → Answer (List ℕ) → Bool
is_none admit (result []) = true
is_none admit (result (v ∷ vs)) = false
is_none admit (refusal w) = false
is_none join w = false
is_none (withdraw x) w = false

-- whether one of the calls is
abbrev pub said_none : List Call → List (Answer (List ℕ)) → Bool
said_none [] ws = false
said_none (x ∷ xs) [] = false
said_none (x ∷ xs) (w ∷ ws) = is_none x w || said_none xs ws

-- o, just opened, has key, k, n, used length and listed numbers of s, and its layer; but after an admit that said none the layer of s is
-- 14. And o has no slot.
pub record AsOpened (o s : State) (none_said : Bool) : Type 0 where
  pub key : s.round.master_key ≡ o.round.master_key
  pub k : s.round.k ≡ o.round.k
  pub n : s.round.n ≡ o.round.n
  pub layer : s.round.j_max ≡ cond none_said 14 o.round.j_max
  pub used : s.round.used ≡ o.round.used
  pub listed : listed (reservoir_of s.round) s.list ≡ listed (reservoir_of o.round) o.list
  pub no_slot : o.round.total ≡ 0

-- ---- the statement

pub record Fleet : Type 0 where
  -- Two rounds reached and alike in key, k, n and active terminals, their lists of one length and their tables of one length, stay so.
  pub same_answers : (s t : State) → Reached s → Reached t → Alike s t → length s.list ≡ length t.list → length s.table ≡ length t.table
      → (calls : List Call) → SameAfter s t calls
  -- With lists and tables of any lengths they stay so where no call of either is refused 4 or 9.
  pub never_parted : (s t : State) → Reached s → Reached t → Alike s t
      → (calls : List Call) → NeverShort (all_said s calls) → NeverShort (all_said t calls) → SameAfter s t calls
  -- Key, k, n, used length and listed numbers of a round reached are what an open at its n gives, and its layer but after an admit that
  -- said none: with the joins that lead to the same active terminals, and `same_answers`, a terminal that was off comes up to date.
  pub opened_anew : (s : State) (h : Reached s) (o : State) → Opens s.round.master_key s.round.k s.round.n o → AsOpened o s (said_none h.calls h.answers)
  -- Two rounds just opened with the same key, k and n are alike.
  pub opened_alike : (key k n : ℕ) (s t : State) → Opens key k n s → Opens key k n t → Alike s t
