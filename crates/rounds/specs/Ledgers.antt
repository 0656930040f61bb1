-- Document 01, **Ledger**, sentence by sentence. No record, list or table of a round is named here, and no answer of its calls.
-- Assumes nothing.
use Rattle.std.specs.Prelude.{Bool, cond, not, List, [], ◌∷◌, map, ℕ, ◌+◌, ◌-◌, eqb, length, take}
use Rattle.std.proofs.Math.Option.{Option, none, some, get_or}
use Rattle.answers.specs.Answers.{Answer, refusal, result}
use Rattle.lists.specs.Lists.{has, without, first_from}
use Rattle.orders.specs.Orders.{P}
use Rattle.orders.specs.Reservoirs.{due, in_and_out, n_after}
use Rattle.rounds.specs.Locations.{slot_of}

-- "the calls in order, each by name with its numbers but no memory"
pub data Call : Type 0 where
  admit : Call
  join : Call
  withdraw : ℕ → Call

-- "It holds key, k and n as opened, a set A, empty at first, and c, first 0."
pub record Ledger : Type 0 where
  pub key : ℕ
  pub k : ℕ
  pub n : ℕ
  pub A : List ℕ
  pub c : ℕ

abbrev pub ledger : ℕ → ℕ → ℕ → List ℕ → ℕ → Ledger
ledger key k n A c = record { key = key; k = k; n = n; A = A; c = c }

abbrev pub first_ledger : ℕ → ℕ → ℕ → Ledger
first_ledger key k n = ledger key k n [] 0

-- "Admit: v is the smallest from n up, below 2^30, among the first k of P(v+1)"
abbrev pub due_in : Ledger → Option ℕ
due_in g = due g.key g.k g.n

-- "Join: the smallest slot below c outside A, else c"
unfoldable pub free_slot : Ledger → ℕ
free_slot g = get_or (first_from (λ x. not (has x g.A)) 0 g.c) g.c

-- The ledger after a call that was not refused. "n becomes v+1. With no such v: none. Join: .. else c, c then rising by 1; that slot ..
-- enters A. Withdraw: the slot leaves A; if it was c−1, c falls by 1."
unfoldable pub accept : Ledger → Call → Ledger
accept g admit = ledger g.key g.k (n_after g.n (due_in g)) g.A g.c
accept g join = ledger g.key g.k g.n (free_slot g ∷ g.A) (cond (eqb (free_slot g) g.c) (g.c + 1) g.c)
accept g (withdraw s) = ledger g.key g.k g.n (without s g.A) (cond (eqb (s + 1) g.c) (g.c - 1) g.c)

-- the values of an admit: the location in and the one out, or none
abbrev pub exchanged : Option (ℕ × ℕ) → List ℕ
exchanged none = []
exchanged (some p) = p.0 ∷ p.1 ∷ []

-- The values that the ledger answers to a call that was not refused: of an admit "in is v, out the k-th of P(n)", or none; of a
-- join the slot; of a withdraw nothing.
unfoldable pub answer : Ledger → Call → List ℕ
answer g admit = exchanged (in_and_out g.key g.k g.n (due_in g))
answer g join = free_slot g ∷ []
answer g (withdraw s) = []

-- ---- the plan

-- a count sheet: a location, and the terminal that holds it
pub record Sheet : Type 0 where
  pub location : ℕ
  pub terminal : Option ℕ

abbrev pub sheet : ℕ → Option ℕ → Sheet
sheet x o = record { location = x; terminal = o }

-- "Its plan: the first k of P(n) in order, each with its slot as defined above." From key, k, n and A alone. Demand 3: "It is
-- refusal 11 exactly when none is active."
unfoldable pub plan_from : ℕ → ℕ → ℕ → List ℕ → Answer (List Sheet)
plan_from key k n A =
    cond (eqb (length A) 0) (refusal 11)
    (result (map (λ x. sheet x (slot_of key x A)) (take k (P key n))))

abbrev pub ledger_plan : Ledger → Answer (List Sheet)
ledger_plan g = plan_from g.key g.k g.n g.A

-- ---- fed with the calls

-- "Fed are .. the calls in order, .. and whether it was refused; a refused one changes nothing"
abbrev pub fed : Ledger → Call → Bool → Ledger
fed g x refused = cond refused g (accept g x)

-- the ledger after a list of calls
unfoldable pub fed_all : Ledger → List Call → List Bool → Ledger
fed_all g [] rs = g
fed_all g (x ∷ xs) [] = g
fed_all g (x ∷ xs) (r ∷ rs) = fed_all (fed g x r) xs rs
