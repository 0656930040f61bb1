-- Demand 3 of a round that a program in C or Rust keeps in seven words: its calls are calls as demand 3 has them.
-- Assumes nothing.
use Rattle.std.specs.Prelude.{◌≡◌, cond, List, [], ◌∷◌, ℕ, ◌+◌, ◌-◌, ◌*◌, ◌^◌, eqb, length, take, get_or}
use Rattle.answers.specs.Answers.{Answer, refusal, result}
use Rattle.rounds.specs.Ledgers.{Call, admit, join, withdraw, Sheet}
use Rattle.rounds.specs.Plans.{plan_lists, sheets}
use Rattle.rounds.specs.Demand3.{Enough, PlanOf}
use Rattle.rounds.specs.Histories.{Opens, AllMade}
use Rattle.exports.specs.Crossings.{crossed, words_list}
use Rattle.exports.specs.Rounds.{Lent, lent, round_in, open_crossed, admit_crossed, join_crossed, withdraw_crossed, plan_crossed}

-- `perillajamb_round_open` answered 0 and left these words and this list, by its promise
pub record OpenedIn (key k n : ℕ) (x : Lent) : Type 0 where
  pub words : List ℕ
  pub list : List ℕ
  pub promise : crossed 0 (words_list x.words x.list) ≡ open_crossed key k n words list

-- On x a function was called: it answered a, and y stands after it. Each case has the promise of its function as it stands in the code.
pub data MadeIn (x : Lent) : Call → ℕ → Lent → Type 0 where
  admit_in : (a : ℕ) (ws l : List ℕ) → crossed a (lent ws l x.table) ≡ admit_crossed x → MadeIn x admit a (lent ws l x.table)
  join_in : (a : ℕ) (ws t : List ℕ) → crossed a (lent ws x.list t) ≡ join_crossed x → MadeIn x join a (lent ws x.list t)
  withdraw_in : (slot a : ℕ) (ws t : List ℕ) → crossed a (lent ws x.list t) ≡ withdraw_crossed slot x
      → MadeIn x (withdraw slot) a (lent ws x.list t)

-- a list of calls, each on what the one before left
pub data AllMadeIn : Lent → List Call → List ℕ → Lent → Type 0 where
  none_in : (x : Lent) → AllMadeIn x [] [] x
  next_in : {x y z : Lent} {c : Call} {a : ℕ} {cs : List Call} {as' : List ℕ} → MadeIn x c a y → AllMadeIn y cs as' z → AllMadeIn x (c ∷ cs) (a ∷ as') z

-- a call's answer as one number
abbrev pub number_of : Call → Answer (List ℕ) → ℕ
number_of c (refusal w) = 2 ^ 63 + w
number_of admit (result vs) = cond (eqb (length vs) 0) (2 ^ 63) (get_or vs 0 0 * 2 ^ 32 + get_or vs 1 0)
number_of join (result vs) = get_or vs 0 0
number_of (withdraw x) (result vs) = 0

abbrev pub numbers_of : List Call → List (Answer (List ℕ)) → List ℕ
numbers_of [] ws = []
numbers_of (c ∷ cs) [] = []
numbers_of (c ∷ cs) (w ∷ ws) = number_of c w ∷ numbers_of cs ws

-- ---- the plan after them

-- what a plan's answer and its two lists say, of k locations
abbrev pub plan_said : ℕ → ℕ → List ℕ → List ℕ → Answer (List Sheet)
plan_said k a ls ts = cond (eqb a 0) (result (sheets (take k ls) (take k ts))) (refusal (a - 2 ^ 63))

-- `perillajamb_round_plan` was called on x, with lists and scratch long enough: it answered a and left the two lists, by its promise
pub record PlannedIn (x : Lent) (a : ℕ) (ls' ts' : List ℕ) : Type 0 where
  pub ls : List ℕ
  pub ts : List ℕ
  pub places : ℕ
  pub enough : Enough (round_in x).round.k (length x.table) ls ts places
  pub promise : crossed a (plan_lists ls' ts') ≡ plan_crossed x ls ts places

-- ---- the statement

-- The round in x is opened, the calls are calls so made, and the numbers are their answers; a plan after them is a plan of the round in
-- y. So all of demand 3 holds of it.
pub record RoundHistory (key k n : ℕ) (x : Lent) (calls : List Call) (numbers : List ℕ) (y : Lent) : Type 0 where
  pub opens : Opens key k n (round_in x)
  pub answers : List (Answer (List ℕ))
  pub made : AllMade (round_in x) calls answers (round_in y)
  pub said : numbers ≡ numbers_of calls answers
  pub planned : (a : ℕ) (ls ts : List ℕ) → PlannedIn y a ls ts → PlanOf (round_in y) (plan_said (round_in y).round.k a ls ts)
