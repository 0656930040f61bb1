-- Lists of calls on a round, each on what the one before returned or left.
-- Assumes nothing.
use Rattle.std.specs.Prelude.{◌≡◌, Bool, List, [], ◌∷◌, map, ℕ, Option, Result}
use Rattle.answers.specs.Answers.{Answer, result, map_answer, is_refusal, after, After}
use Rattle.answers.specs.declared.Refusal.{Refusal}
use Rattle.answers.specs.Refusals.{answer_of}
use Rattle.orders.specs.declared.consistent_reservoir.Exchange.{Exchange}
use Rattle.orders.specs.ReservoirCalls.{answer_of_exchange}
use Rattle.rounds.specs.declared.round.Round.{Round}
use Rattle.rounds.specs.Rounds.{State, state, open_call, admit_call, join_call, withdraw_call}
use Rattle.rounds.specs.Ledgers.{Call, admit, join, withdraw, exchanged}

-- a call's values, as the ledger has them
abbrev pub slot_said : ℕ → List ℕ
slot_said x = x ∷ []

abbrev pub nothing_said : Unit {0} → List ℕ
nothing_said u = []

-- ---- calls as code makes them

-- an open of key, k and n that is accepted, and a table with any bytes
pub record Opens (key k n : ℕ) (s : State) : Type 0 where
  pub lent : List ℕ
  pub accepted : open_call key k n lent ≡ after (result s.round) s.list

-- On s a call was made: it said w, and t stands after it. Each case has the promise of one of the six calls as it stands in the code.
pub data Made (s : State) : Call → Answer (List ℕ) → State → Type 0 where
  -- by value, the record returned
  admit_returned : (a : Round × Result (Option Exchange) Refusal) (l : List ℕ) → after (answer_of_exchange a.1) (state a.0 l s.table) ≡ admit_call s
      → Made s admit (map_answer exchanged (answer_of_exchange a.1)) (state a.0 l s.table)
  join_returned : (a : Round × Result ℕ Refusal) (t : List ℕ) → after (answer_of a.1) (state a.0 s.list t) ≡ join_call s
      → Made s join (map_answer slot_said (answer_of a.1)) (state a.0 s.list t)
  withdraw_returned : (x : ℕ) (a : Round × Result (Unit {0}) Refusal) (t : List ℕ) → after (answer_of a.1) (state a.0 s.list t) ≡ withdraw_call s x
      → Made s (withdraw x) (map_answer nothing_said (answer_of a.1)) (state a.0 s.list t)
  -- on the lent record, which is left
  admit_left : (e : Result (Option Exchange) Refusal) (r : Round) (l : List ℕ) → after (answer_of_exchange e) (state r l s.table) ≡ admit_call s
      → Made s admit (map_answer exchanged (answer_of_exchange e)) (state r l s.table)
  join_left : (y : Result ℕ Refusal) (r : Round) (t : List ℕ) → after (answer_of y) (state r s.list t) ≡ join_call s
      → Made s join (map_answer slot_said (answer_of y)) (state r s.list t)
  withdraw_left : (x : ℕ) (o : Result (Unit {0}) Refusal) (r : Round) (t : List ℕ) → after (answer_of o) (state r s.list t) ≡ withdraw_call s x
      → Made s (withdraw x) (map_answer nothing_said (answer_of o)) (state r s.list t)

-- Demand 3: "Each call .. gets the round's one record, list and table as the one before returned or left them, and nothing else
-- writes these." From s the calls were made, refused ones among them; they said ws, and u stands after them.
pub data AllMade : State → List Call → List (Answer (List ℕ)) → State → Type 0 where
  made_none : (s : State) → AllMade s [] [] s
  made_next : {s t u : State} {x : Call} {w : Answer (List ℕ)} {xs : List Call} {ws : List (Answer (List ℕ))}
      → Made s x w t → AllMade t xs ws u → AllMade s (x ∷ xs) (w ∷ ws) u

-- which of them were refused
abbrev pub refusals : List (Answer (List ℕ)) → List Bool
refusals ws = map is_refusal ws

-- ---- the same by the calls' models

-- a call's values, whatever it answers
abbrev pub valued : {A : Type 0} → (A → List ℕ) → After State A → After State (List ℕ)
valued f a = after (map_answer f a.answer) a.left

unfoldable pub call : State → Call → After State (List ℕ)
call s admit = valued exchanged (admit_call s)
call s join = valued slot_said (join_call s)
call s (withdraw x) = valued nothing_said (withdraw_call s x)

-- what stands after a list of calls,
unfoldable pub after_all : State → List Call → State
after_all s [] = s
after_all s (x ∷ xs) = after_all (call s x).left xs

-- and what they say.
unfoldable pub all_said : State → List Call → List (Answer (List ℕ))
all_said s [] = []
all_said s (x ∷ xs) = (call s x).answer ∷ all_said (call s x).left xs
