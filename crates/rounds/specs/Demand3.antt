-- Demand 3: one statement, the record `Demand3` at the end, with a field for each of its clauses.
-- Assumes nothing.
use Rattle.std.specs.Prelude.{◌≡◌, ◌⊎◌, ◌≢◌, true, false, cond, List, [], ◌∷◌, ℕ, ◌≤◌, min, eqb, length, Result}
use Rattle.std.proofs.Math.Option.{Option, none, some}
use Rattle.answers.specs.Answers.{Answer, refusal, result, is_refusal, after}
use Rattle.lists.specs.Lists.{has, Exchanges}
use Rattle.answers.specs.declared.Refusal.{Refusal}
use Rattle.answers.specs.Refusals.{answer_of}
use Rattle.choosers.specs.Slots.{active}
use Rattle.choosers.specs.SlotCalls.{slot_limit}
use Rattle.rounds.specs.Rounds.{State}
use Rattle.rounds.specs.Ledgers.{Call, admit, join, withdraw, Ledger, first_ledger, answer, Sheet, ledger_plan, fed, fed_all}
use Rattle.rounds.specs.Plans.{sampled, plan_call, shown_plan, plan_lists}
use Rattle.rounds.specs.Histories.{Opens, Made, AllMade, refusals}

-- ---- a round so reached, and its ledger

-- "This holds for every list of admit, join and withdraw calls from an accepted open, refused ones among them."
pub record Reached (s : State) : Type 0 where
  pub key : ℕ
  pub k : ℕ
  pub n : ℕ
  pub start : State
  pub opens : Opens key k n start
  pub calls : List Call
  pub answers : List (Answer (List ℕ))
  pub made : AllMade start calls answers s

-- 01: "Fed are the open's key, k and n, then the calls in order, each by name with its numbers but no memory, and whether it was
-- refused"
abbrev pub ledger_of : {s : State} → Reached s → Ledger
ledger_of h = fed_all (first_ledger h.key h.k h.n) h.calls (refusals h.answers)

-- 01: "A is the active terminals, n the n reached."
pub record Shown (s : State) (g : Ledger) : Type 0 where
  pub key : s.round.master_key ≡ g.key
  pub k : s.round.k ≡ g.k
  pub n : s.round.n ≡ g.n
  pub active : (x : ℕ) → active s.table s.round.total x ≡ has x g.A

-- Each answer that is no refusal is the ledger's, which is fed with the calls before it and whether they were refused.
abbrev pub agrees : Ledger → Call → Answer (List ℕ) → Type 0
agrees g x (refusal w) = Unit {0}
agrees g x (result vs) = vs ≡ answer g x

unfoldable pub Agree : Ledger → List Call → List (Answer (List ℕ)) → Type 0
Agree g [] [] = Unit {0}
Agree g [] (a ∷ ws) = ⊥
Agree g (x ∷ xs) [] = ⊥
Agree g (x ∷ xs) (a ∷ ws) = agrees g x a × Agree (fed g x (is_refusal a)) xs ws

-- ---- its plan

-- "lists and scratch long enough": of k locations, and a table of so many bytes
pub record Enough (k bytes : ℕ) (ls ts : List ℕ) (places : ℕ) : Type 0 where
  pub locations : k ≤ length ls
  pub terminals : k ≤ length ts
  pub scratch : min bytes slot_limit ≤ places

-- p is the plan of s: lent were lists and scratch long enough, and by plan's promise it answered o and left the two lists. A round has
-- one plan, whatever is lent.
pub record PlanOf (s : State) (p : Answer (List Sheet)) : Type 0 where
  pub ls : List ℕ
  pub ts : List ℕ
  pub places : ℕ
  pub enough : Enough s.round.k (length s.table) ls ts places
  pub o : Result (Unit {0}) Refusal
  pub ls' : List ℕ
  pub ts' : List ℕ
  pub promise : after (answer_of o) (plan_lists ls' ts') ≡ plan_call s ls ts places
  pub is : shown_plan s.round.k (after (answer_of o) (plan_lists ls' ts')) ≡ p

-- no slot is active
abbrev pub NoneActive : State → Type 0
NoneActive s = (x : ℕ) → active s.table s.round.total x ≡ false

-- "these four": key, k, the n reached and the set of active terminals
pub record Alike (s t : State) : Type 0 where
  pub key : s.round.master_key ≡ t.round.master_key
  pub k : s.round.k ≡ t.round.k
  pub n : s.round.n ≡ t.round.n
  pub active : (x : ℕ) → active s.table s.round.total x ≡ active t.table t.round.total x

-- ---- what moves

-- the terminal of a location in a list of sheets
unfoldable pub terminal_in : ℕ → List Sheet → Option ℕ
terminal_in x [] = none
terminal_in x (s ∷ ss) = cond (eqb s.location x) s.terminal (terminal_in x ss)

-- the terminal that a plan gives a location; 01: "a refused plan gives none"
unfoldable pub terminal : Answer (List Sheet) → ℕ → Option ℕ
terminal (refusal w) x = none
terminal (result ss) x = terminal_in x ss

-- 01: "A location moves if its terminal before and after differs"
abbrev pub Moves : Answer (List Sheet) → Answer (List Sheet) → ℕ → Type 0
Moves before now x = terminal before x ≢ terminal now x

-- the two locations that an admit names come in and go out, or, where it names none, nothing changes
abbrev pub SampleMoves : List ℕ → List ℕ → List ℕ → Type 0
SampleMoves before now vs = ((vs ≡ []) × (now ≡ before)) ⊎ ((v : ℕ) × (o : ℕ) × (vs ≡ v ∷ o ∷ []) × Exchanges before now v o)

-- ---- the demand

pub record Demand3 : Type 0 where
  -- "The plan, asked with lists and scratch long enough, gives at each place the location and terminal that 01's ledger defines from
  -- key, k, the n reached and the set of active terminals alone."
  pub planned : (s : State) (h : Reached s) (p : Answer (List Sheet)) → PlanOf s p → p ≡ ledger_plan (ledger_of h)
  -- 01: "A is the active terminals, n the n reached."
  pub shown : (s : State) (h : Reached s) → Shown s (ledger_of h)
  -- "It is refusal 11 exactly when none is active."
  pub eleven : (s : State) → Reached s → (p : Answer (List Sheet)) → PlanOf s p → (p ≡ refusal 11 → NoneActive s) × (NoneActive s → p ≡ refusal 11)
  -- "Rounds so reached and alike in these four have the same plan."
  pub same_plan : (s t : State) → Reached s → Reached t → Alike s t → (p q : Answer (List Sheet)) → PlanOf s p → PlanOf t q → p ≡ q
  -- "Every admit and join not refused answers as the ledger does."
  pub answered : (s : State) (h : Reached s) → Agree (first_ledger h.key h.k h.n) h.calls h.answers
  -- "Hence an accepted withdraw moves only the locations of the terminal withdrawn,"
  pub withdrawn : (s t : State) → Reached s → (x : ℕ) (vs : List ℕ) → Made s (withdraw x) (result vs) t
      → (p q : Answer (List Sheet)) → PlanOf s p → PlanOf t q → (y : ℕ) → Moves p q y → terminal p y ≡ some x
  -- "and an accepted join moves locations only to the joiner."
  pub joined : (s t : State) → Reached s → (x : ℕ) → Made s join (result (x ∷ [])) t
      → (p q : Answer (List Sheet)) → PlanOf s p → PlanOf t q → (y : ℕ) → Moves p q y → terminal q y ≡ some x
  -- "An admit changes the sample by exactly the two locations it names, one out and one in, or not at all; the others keep .. relative
  -- order."
  pub sampled : (s t : State) → Reached s → (vs : List ℕ) → Made s admit (result vs) t → SampleMoves (sampled s) (sampled t) vs
  -- "the others keep terminal": only the two that it names move
  pub kept : (s t : State) → Reached s → (vs : List ℕ) → Made s admit (result vs) t
      → (p q : Answer (List Sheet)) → PlanOf s p → PlanOf t q → (y : ℕ) → Moves p q y → has y vs ≡ true
