-- Document 02, §1, "The place of a location", sentence by sentence; and what is proved of it (proofs/PlaceLaws.antt).
-- Assumes nothing.
use Rattle.std.specs.Prelude.{◌≡◌, true, cond, List, ℕ, ◌^◌, ◌≤◌, ◌<◌, ltb, get_or}
use Rattle.std.specs.List.{position_or_len}
use Rattle.answers.specs.Answers.{Answer, refusal, result}
use Rattle.lists.specs.Lists.{same, has}
use Rattle.orders.specs.declared.consistent_reservoir.ConsistentReservoir.{ConsistentReservoir}
use Rattle.orders.specs.Orders.{P}
use Rattle.orders.specs.ReservoirCalls.{key_of, sample}
use Rattle.orders.specs.Admissions.{Kept}

-- "From key, n and a location below n, give its place in P(n), counted from 0"
unfoldable pub place : ℕ → ℕ → ℕ → ℕ
place key n v = position_or_len (same v) (P key n)

-- `place`. 1: "n above 2^30"; "New: 13, the location isn't below n; tested after 1."
unfoldable pub place_call : ℕ → ℕ → ℕ → Answer ℕ
place_call key n v = cond (ltb (2 ^ 30) n) (refusal 1) (cond (ltb v n) (result (place key n v)) (refusal 13))

-- ---- what is proved

-- "The t-th number of P(n), counted from 0, has place t, for every t below n." And back: a location that has place t is the t-th.
-- Law `placed`.
pub record Placed (key n : ℕ) : Type 0 where
  pub has_place : (t : ℕ) → t < n → place_call key n (get_or (P key n) t 0) ≡ result t
  pub at_place : (v t : ℕ) → place_call key n v ≡ result t → (t < n) × (get_or (P key n) t 0 ≡ v)

-- "for every t below n", n at most 2^30
abbrev pub AllPlaced : Type 0
AllPlaced = (key n : ℕ) → n ≤ 2 ^ 30 → Placed key n

-- What the place says of the sample of a record reached from open, "how far down the count order it stands". Law `sample_places`.
pub record SamplePlaces (r : ConsistentReservoir) (l : List ℕ) : Type 0 where
  -- a location is in the sample of k exactly if its place is below k,
  pub sampled : (v : ℕ) → v < r.n → has v (sample r l) ≡ ltb (place (key_of r) r.n v) r.k
  -- and stands there at its place
  pub stands : (v : ℕ) → v < r.n → place (key_of r) r.n v < r.k → get_or (sample r l) (place (key_of r) r.n v) 0 ≡ v
  -- of two locations the one with the smaller place goes into the sample first: where the other is, it is
  pub first : (v w : ℕ) → v < r.n → w < r.n → place (key_of r) r.n v < place (key_of r) r.n w → has w (sample r l) ≡ true → has v (sample r l) ≡ true

-- "from open": after any list of its calls
abbrev pub AllSamplePlaces : Type 0
AllSamplePlaces = (r : ConsistentReservoir) (l : List ℕ) → Kept r l → SamplePlaces r l
