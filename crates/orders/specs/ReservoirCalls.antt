-- What the reservoir's calls say and leave, on any record and any list.
-- Assumes nothing.
use Rattle.std.specs.Prelude.{Result, Ok, Err, Bool, cond, ◌&&◌, List, ℕ, ◌+◌, ◌-◌, ◌^◌, ltb, leb, eqb, length, take}
use Rattle.std.specs.Prelude as rust
use Rattle.std.proofs.Math.Option.{Option, none, some}
use Rattle.answers.specs.Answers.{Answer, refusal, result, After, refused, after}
use Rattle.answers.specs.declared.Refusal.{Refusal}
use Rattle.answers.specs.Refusals.{number}
use Rattle.answers.specs.Making.{by_sizes}
use Rattle.lists.specs.Lists.{keep, below, every, standing, last, written}
use Rattle.layers.specs.Layer.{size}
use Rattle.orders.specs.declared.consistent_reservoir.ConsistentReservoir.{ConsistentReservoir}
use Rattle.orders.specs.declared.consistent_reservoir.Exchange.{Exchange}
use Rattle.orders.specs.Orders.{layer_of}
use Rattle.orders.specs.Reservoirs.{counts, opening, incoming, grown, wider}

-- "A record (key, k, n, layer j, used length)": the key and the layer, in the original's names
abbrev pub key_of : ConsistentReservoir → ℕ
key_of r = r.master_key

abbrev pub j_of : ConsistentReservoir → ℕ
j_of r = r.j_max

-- the numbers of the list that are in use
abbrev pub listed : ConsistentReservoir → List ℕ → List ℕ
listed r l = take r.used l

-- "The sample is the list's numbers below n, in order"
unfoldable pub sample : ConsistentReservoir → List ℕ → List ℕ
sample r l = keep (counts r.n) (listed r l)

-- Refusal 12 is for any of these: "k 0 or above n, n above 4^(j+1), j above 14, a used length .. past its list, not exactly
-- k listed below n, a listed number of 4^(j+1) or more, the last not below n"
unfoldable pub fitting : ConsistentReservoir → List ℕ → Bool
fitting r l =
    leb (j_of r) 14 && leb 1 r.k && leb r.k r.n && leb r.n (size (j_of r)) && leb r.used (length l)
    && eqb (length (sample r l)) r.k && every (below (size (j_of r))) (listed r l) && ltb (last (listed r l)) r.n

-- a record and its list
pub record ReservoirState : Type 0 where
  pub reservoir : ConsistentReservoir
  pub list : List ℕ

abbrev pub reservoir_state : ConsistentReservoir → List ℕ → ReservoirState
reservoir_state r l = record { reservoir = r; list = l }

-- ---- open

abbrev pub reservoir_of : ℕ → ℕ → ℕ → ℕ → ℕ → ConsistentReservoir
reservoir_of key k n j u = record { master_key = key; k = k; n = n; j_max = j; used = u }

-- What it leaves is the list; there is a record only where it answers one. 1, 2 and 3 by k and n, then "4 a lent list shorter than what
-- must be written".
unfoldable pub open_call : ℕ → ℕ → ℕ → List ℕ → After (List ℕ) ConsistentReservoir
open_call k n key l =
    let xs = opening key k n in
    by_sizes (2 ^ 30) 1 k n (λ w. refused w l)
    (cond (ltb (length l) (length xs)) (refused 4 l)
    (after (result (reservoir_of key k n (layer_of n) (length xs))) (written xs l)))

-- ---- admit and grow_layer

-- the location that comes in and the one that goes out, none, or the refusal's number
abbrev pub answer_of_exchange : Result (rust.Option Exchange) Refusal → Answer (Option (ℕ × ℕ))
answer_of_exchange (Ok (rust.Some e)) = result (some (e.enters, e.leaves))
answer_of_exchange (Ok rust.None) = result none
answer_of_exchange (Err why) = refusal (number why)

-- An exchange at layer i, where xs is listed, by v, after which u places stand. 4: "a lent list shorter than .. the used length
-- that the call would end with".
unfoldable pub exchange_by : ConsistentReservoir → ℕ → List ℕ → List ℕ → ℕ → ℕ → After ReservoirState (Option (ℕ × ℕ))
exchange_by r i xs l v u =
    cond (ltb (length l) u) (refused 4 (reservoir_state r l))
    (after (result (some (v, last xs))) (reservoir_state (reservoir_of (key_of r) r.k (v + 1) i u) (written (take u xs) l)))

-- "the last listed number goes out; the smallest listed number not below n comes in; n becomes that plus 1; then last numbers
-- not below n are dropped while more than k stand."
unfoldable pub exchange : ConsistentReservoir → ℕ → List ℕ → List ℕ → After ReservoirState (Option (ℕ × ℕ))
exchange r i xs l =
    let v = incoming r.n xs in
    exchange_by r i xs l v (standing (counts (v + 1)) r.k xs (length xs - 1))

-- "With no such i the answer is none, j becomes 14, the rest stands."
abbrev pub admit_at : ConsistentReservoir → List ℕ → Option ℕ → After ReservoirState (Option (ℕ × ℕ))
admit_at r l none = after (result none) (reservoir_state (reservoir_of (key_of r) r.k r.n 14 r.used) l)
admit_at r l (some i) = exchange r i (grown (key_of r) i r.k (listed r l)) l

-- "Admit, if the used length exceeds k: .. If it equals k: layers j+1, j+2, .. are tried."
unfoldable pub admit_call : ConsistentReservoir → List ℕ → After ReservoirState (Option (ℕ × ℕ))
admit_call r l =
    cond (fitting r l)
    (cond (ltb r.k r.used)
    (exchange r (j_of r) (listed r l) l)
    (admit_at r l (wider (key_of r) r.k (j_of r))))
    (refused 12 (reservoir_state r l))

-- to layer j+1, where xs is listed then
unfoldable pub grow_to : ConsistentReservoir → List ℕ → List ℕ → After ReservoirState (Unit {0})
grow_to r xs l =
    cond (ltb (length l) (length xs)) (refused 4 (reservoir_state r l))
    (after (result tt) (reservoir_state (reservoir_of (key_of r) r.k r.n (j_of r + 1) (length xs)) (written xs l)))

-- "`grow_layer`: the same step to layer j+1, only for used length k." 7: "layer growth with used length above k", 8: "the
-- same at layer 14".
unfoldable pub grow_layer_call : ConsistentReservoir → List ℕ → After ReservoirState (Unit {0})
grow_layer_call r l =
    cond (fitting r l)
    (cond (ltb r.k r.used) (refused 7 (reservoir_state r l))
    (cond (eqb (j_of r) 14) (refused 8 (reservoir_state r l))
    (grow_to r (grown (key_of r) (j_of r + 1) r.k (listed r l)) l)))
    (refused 12 (reservoir_state r l))

-- ---- the sample

-- "`reservoir` writes it to the first k places of another lent u32 list"
unfoldable pub sample_call : ConsistentReservoir → List ℕ → List ℕ → After (List ℕ) (Unit {0})
sample_call r l o =
    cond (fitting r l)
    (cond (ltb (length o) r.k) (refused 4 o) (after (result tt) (written (sample r l) o)))
    (refused 12 o)
