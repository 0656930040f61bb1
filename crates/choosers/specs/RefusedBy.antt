-- The refusals of each call, in document 01's order. That it has no others is the law of its list in proofs/RefusedLaws.antt.
-- Assumes nothing.
use Rattle.std.specs.Prelude.{List, [], ◌∷◌, ℕ}

-- ---- choosers

-- `ConsistentChooseKHasher::new`. 1: "n above .. 2^62 (hashes, choosers)"
abbrev pub chooser_refusals : List ℕ
chooser_refusals = 1 ∷ []

-- `new_with_k`: "3 k above n", "4 a lent list shorter than what must be written"
abbrev pub with_k_refusals : List ℕ
with_k_refusals = 1 ∷ 3 ∷ 4 ∷ []

-- `grow_k`. 12: "a chooser's k past its list", "samples not strictly ascending below n"; "6 grow with k = n"
abbrev pub grow_refusals : List ℕ
grow_refusals = 12 ∷ 1 ∷ 6 ∷ 4 ∷ []

-- `next`: "6 grow with k = n (the iterator says none)"
abbrev pub next_refusals : List ℕ
next_refusals = 12 ∷ 1 ∷ 4 ∷ []

-- `shrink_n`: "5 shrink with k 0, n at most k, or samples 0..k−1"
abbrev pub shrink_refusals : List ℕ
shrink_refusals = 12 ∷ 1 ∷ 5 ∷ []

-- ---- slot maps

-- `add`. 12: "a table byte above 1 below the count, a count past the table or 65,536"; "9 add with no deleted slot and the count at the
-- table's length, or 65,536"
abbrev pub add_refusals : List ℕ
add_refusals = 12 ∷ 9 ∷ []

-- `remove`: "10 remove of a slot not active"
abbrev pub remove_refusals : List ℕ
remove_refusals = 12 ∷ 10 ∷ []

-- `len`, `is_empty` and `is_active`
abbrev pub query_refusals : List ℕ
query_refusals = 12 ∷ []

-- `get`. 4: "scratch shorter than the smaller of the table's length and 65,536"; "11 get .. with none active"
abbrev pub get_refusals : List ℕ
get_refusals = 12 ∷ 4 ∷ 11 ∷ []
