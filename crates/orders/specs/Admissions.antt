-- Document 01, "A plan call, followed downwards", the end of **Reservoir**, with the words of **Ledger**: what an admit of a record reached
-- from open says and leaves, by the orders alone: `AdmissionHolds`; and what a growth of any record does: `GrowthHolds`. Their proofs are
-- `admission` and `growth` (proofs/HistoryLaws.antt). Rounds rest on this file.
-- Assumes nothing.
use Rattle.std.specs.Prelude.{◌≡◌, ◌⊎◌, true, false, cond, List, ℕ, suc, ◌+◌, ◌^◌, ◌≤◌, ◌<◌, ltb, length, drop}
use Rattle.std.proofs.Math.Option.{Option, none, some, get_or}
use Rattle.answers.specs.Answers.{Answer, refusal, result, After, after, refused}
use Rattle.lists.specs.Lists.{Exchanges}
use Rattle.orders.specs.declared.consistent_reservoir.ConsistentReservoir.{ConsistentReservoir}
use Rattle.orders.specs.Orders.{layer_of}
use Rattle.orders.specs.Reservoirs.{wider, held, among, due, in_and_out, n_after}
use Rattle.orders.specs.ReservoirCalls.{key_of, j_of, listed, sample, open_call, admit_call, grow_layer_call, reservoir_state, ReservoirState}
use Rattle.orders.specs.Histories.{Call, after_all}

-- ---- what is due

-- v is "the smallest v from n up that is among the first k of P(v+1)", below 2^30
pub record Due (key k n v : ℕ) : Type 0 where
  -- "from n up", "below 2^30"
  pub from_n : n ≤ v
  pub limit : v < 2 ^ 30
  -- "among the first k of P(v+1)"
  pub among_first : among key k v ≡ true
  -- "the smallest"
  pub smallest : (u : ℕ) → n ≤ u → u < v → among key k u ≡ false

-- "no v below 2^30 is"
abbrev pub NoneDue : ℕ → ℕ → ℕ → Type 0
NoneDue key k n = (u : ℕ) → n ≤ u → u < 2 ^ 30 → among key k u ≡ false

-- what `due` finds
abbrev pub DueIs : ℕ → ℕ → ℕ → Option ℕ → Type 0
DueIs key k n none = NoneDue key k n
DueIs key k n (some v) = Due key k n v

-- ---- what an admit does, by the number that is due

-- the sample before and after: these two are exchanged, and the others keep their order; with none it stays
abbrev pub ChangesBy : List ℕ → List ℕ → Option (ℕ × ℕ) → Type 0
ChangesBy before now none = now ≡ before
ChangesBy before now (some p) = Exchanges before now p.0 p.1

-- ---- a record reached from open

-- what holds of a record and its list after an accepted open and any admits and grow_layers
pub record Kept (r : ConsistentReservoir) (l : List ℕ) : Type 0 where
  -- nothing of refusal 12: "k 0 or above n, n above 4^(j+1), j above 14, a used length .. past its list"
  pub some_k : 0 < r.k
  pub k_le : r.k ≤ r.n
  pub n_le : r.n ≤ 4 ^ suc (j_of r)
  pub j_le : j_of r ≤ 14
  pub used_le : r.used ≤ length l
  -- "the list holds P(4^(j+1)) .. up to and with its k-th number below n"
  pub list_is : listed r l ≡ held (key_of r) (j_of r) r.k r.n

-- an accepted open of k of n under key leaves such a record
pub record Opened (key k n : ℕ) (r : ConsistentReservoir) (l : List ℕ) : Type 0 where
  pub key_is : key_of r ≡ key
  pub k_is : r.k ≡ k
  pub n_is : r.n ≡ n
  pub layer_is : j_of r ≡ layer_of n
  pub kept : Kept r l

-- the layer that an admit ends at, none where there is no such layer: "if the used length exceeds k", j; else "the first i up to 14
-- with Li(k) above k"
abbrev pub ends_at : ConsistentReservoir → Option ℕ
ends_at r = cond (ltb r.k r.used) (some (j_of r)) (wider (key_of r) r.k (j_of r))

-- refusal 4
pub record Short (r : ConsistentReservoir) (l : List ℕ) (a : After ReservoirState (Option (ℕ × ℕ))) : Type 0 where
  -- a number is due, and the layer that the admit ends at
  pub v : ℕ
  pub j : ℕ
  pub is_due : due (key_of r) r.k r.n ≡ some v
  pub j_le : j ≤ 14
  pub at_layer : ends_at r ≡ some j
  -- "a lent list shorter .. than the used length that the call would end with"
  pub short : length l < length (held (key_of r) j r.k (v + 1))
  -- "a refused one changes nothing"
  pub is_refused : a ≡ refused 4 (reservoir_state r l)

-- what an accepted admit says and leaves, by the number that is due
pub record Admits (r : ConsistentReservoir) (a : After ReservoirState (Option (ℕ × ℕ))) : Type 0 where
  -- "in is v, out the k-th of P(n)"; "With no such v: none."
  pub answer_is : a.answer ≡ result (in_and_out (key_of r) r.k r.n (due (key_of r) r.k r.n))
  -- "key, k .. as opened", "n becomes v+1"
  pub key_is : key_of a.left.reservoir ≡ key_of r
  pub k_is : a.left.reservoir.k ≡ r.k
  pub n_is : a.left.reservoir.n ≡ n_after r.n (due (key_of r) r.k r.n)
  -- "becomes the layer"; with none "j becomes 14"
  pub layer_is : j_of a.left.reservoir ≡ get_or (ends_at r) 14
  -- "the list holds P(4^(j+1)) .. up to and with its k-th number below n", of the new n
  pub kept : Kept a.left.reservoir a.left.list

-- "No call writes a place past the used length it ends with.": there the list is as it was
abbrev pub PastUsed : {A : Type 0} → List ℕ → After ReservoirState A → Type 0
PastUsed l a = drop a.left.reservoir.used a.left.list ≡ drop a.left.reservoir.used l

-- the same of an open, whose refusal leaves the whole list
abbrev pub OpenedPast : List ℕ → Answer ConsistentReservoir → List ℕ → Type 0
OpenedPast l (refusal c) l' = l' ≡ l
OpenedPast l (result r) l' = drop r.used l' ≡ drop r.used l

-- ---- the whole claim

-- "So, in a record reached from open, admit brings in the smallest v from n up that is among the first k of P(v+1), and says none only
-- where no v below 2^30 is."
pub record Admission (key k : ℕ) (r : ConsistentReservoir) (l : List ℕ) (a : After ReservoirState (Option (ℕ × ℕ))) : Type 0 where
  -- "key, k .. as opened"
  pub key_is : key_of r ≡ key
  pub k_is : r.k ≡ k
  -- "the list holds P(4^(j+1)) .. up to and with its k-th number below n"
  pub kept : Kept r l
  -- what `due` finds is "the smallest v from n up that is among the first k of P(v+1)", or "no v below 2^30 is"
  pub due_is : DueIs (key_of r) r.k r.n (due (key_of r) r.k r.n)
  -- "4 a lent list shorter than what must be written"; else "admit brings in" what is due
  pub outcome : Short r l a ⊎ Admits r a
  -- demand 3: "An admit changes the sample by exactly the two locations it names, one out and one in, or not at all"
  pub sample_is : Admits r a → ChangesBy (sample r l) (sample a.left.reservoir a.left.list) (in_and_out (key_of r) r.k r.n (due (key_of r) r.k r.n))
  -- "No call writes a place past the used length it ends with."
  pub past_used : PastUsed l a

-- from an accepted open, after any list of admits and grow_layers, refused ones among them
abbrev pub AdmissionHolds : Type 0
AdmissionHolds =
    (k n key : ℕ) (l : List ℕ) (t : ReservoirState) → open_call k n key l ≡ after (result t.reservoir) t.list → (cs : List Call)
    → let now = after_all cs t in
    Admission key k now.reservoir now.list (admit_call now.reservoir now.list)

-- ---- grow_layer

-- what an accepted growth leaves: the same key, k, n and sample, at the next layer; of a record reached from open such a record
pub record Grows (r : ConsistentReservoir) (l : List ℕ) (a : After ReservoirState (Unit {0})) : Type 0 where
  pub answer_is : a.answer ≡ result tt
  pub key_is : key_of a.left.reservoir ≡ key_of r
  pub k_is : a.left.reservoir.k ≡ r.k
  pub n_is : a.left.reservoir.n ≡ r.n
  pub j_is : j_of a.left.reservoir ≡ j_of r + 1
  pub sample_is : sample a.left.reservoir a.left.list ≡ sample r l
  pub kept : Kept r l → Kept a.left.reservoir a.left.list
  pub past_used : PastUsed l a

-- any record and list: the growth is refused, which changes nothing, or it grows
abbrev pub GrowthHolds : Type 0
GrowthHolds =
    (r : ConsistentReservoir) (l : List ℕ)
    → ((c : ℕ) × (grow_layer_call r l ≡ refused c (reservoir_state r l))) ⊎ Grows r l (grow_layer_call r l)
