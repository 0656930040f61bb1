-- Document 01, "Cases for the table of proofs", row by row in its order.
-- Assumes nothing.
use Rattle.std.specs.Prelude.{◌≡◌, [], ◌∷◌, ℕ, ◌^◌}
use Rattle.std.proofs.Math.Option.{none, some}
use Rattle.answers.specs.Answers.{result, refused, after}
use Rattle.layers.specs.declared.feistel.Halves.{Halves}
use Rattle.layers.specs.Layer.{round}
use Rattle.orders.specs.Orders.{layer_of, P}
use Rattle.orders.specs.ReservoirCalls.{reservoir_of, admit_call, reservoir_state}
use Rattle.hashes.specs.Hashes.{bucket_hashes, prev}
use Rattle.choosers.specs.Choosers.{S}
use Rattle.choosers.specs.ChooserCalls.{chooser_of, shrink_call, chooser_state}
use Rattle.choosers.specs.SlotCalls.{map_of, add_call, remove_call, SlotState, slot_state}
use Rattle.rounds.specs.declared.round.Round.{Round}
use Rattle.rounds.specs.Rounds.{State, state, join_call, withdraw_call}
use Rattle.rounds.specs.Rounds as rounds

-- "rounds with h = 4, l = 5"
abbrev pub halves : ℕ → ℕ → Halves
halves key r = record { l = 5; r = r; key = key }

abbrev pub join : SlotState → SlotState
join h = (add_call h.map h.table).left

abbrev pub withdraw : ℕ → SlotState → SlotState
withdraw x h = (remove_call h.map h.table x).left

-- "Three joins", in a table of three bytes, whatever they are
abbrev pub three_joins : ℕ → ℕ → ℕ → SlotState
three_joins a b c = join (join (join (slot_state (map_of 0) (a ∷ b ∷ c ∷ []))))

-- a round's record
abbrev pub round_of : ℕ → ℕ → ℕ → ℕ → ℕ → ℕ → Round
round_of key k n j used total = record { master_key = key; k = k; n = n; j_max = j; used = used; total = total }

abbrev pub joined : State → State
joined s = (join_call s).left

abbrev pub withdrawn : ℕ → State → State
withdrawn x s = (withdraw_call s x).left

-- "Three joins" of a round of one location of one, whatever the key and the table's bytes
abbrev pub three_joined : ℕ → ℕ → ℕ → ℕ → State
three_joined key a b c = joined (joined (joined (state (round_of key 1 1 0 1 0) (0 ∷ []) (a ∷ b ∷ c ∷ []))))

pub record Table : Type 0 where
  -- "key 0, r = 3 gives 3, 6, next K 9E3779B97F4A7C15"
  pub round_key_0 : round 4 (halves 0 3) ≡ record { l = 3; r = 6; key = 0x9E37_79B9_7F4A_7C15 }
  -- "key 0000000200000000, r = 3 gives 3, 12, next K 9E3779B9814A7C15"
  pub round_key_2 : round 4 (halves 0x0000_0002_0000_0000 3) ≡ record { l = 3; r = 12; key = 0x9E37_79B9_814A_7C15 }
  -- "key FFFFFFFDFFFFFFFF, r = 1 gives 1, 4"
  pub round_key_f_l : (round 4 (halves 0xFFFF_FFFD_FFFF_FFFF 1)).l ≡ 1
  pub round_key_f_r : (round 4 (halves 0xFFFF_FFFD_FFFF_FFFF 1)).r ≡ 4
  -- "P(0) is empty, P(1) is 0.", under every key
  pub P_of_0 : (key : ℕ) → P key 0 ≡ []
  pub P_of_1 : (key : ℕ) → P key 1 ≡ 0 ∷ []
  -- "Layers of 4, 5, 16, 17, 2^30: 0, 1, 1, 2, 14."
  pub layer_of_4 : layer_of 4 ≡ 0
  pub layer_of_5 : layer_of 5 ≡ 1
  pub layer_of_16 : layer_of 16 ≡ 1
  pub layer_of_17 : layer_of 17 ≡ 2
  pub layer_of_limit : layer_of (2 ^ 30) ≡ 14
  -- "Prev of 0 none, of 1: 0", of every state
  pub prev_of_0 : (s : ℕ) → prev s 0 ≡ none
  pub prev_of_1 : (s : ℕ) → prev s 1 ≡ some 0
  -- "Bucket 4, draws 2, 7, 5, 1: hashes 6, 5."
  pub bucket_4 : bucket_hashes 4 (2 ∷ 7 ∷ 5 ∷ 1 ∷ []) ≡ 6 ∷ 5 ∷ []
  -- "n = k = 3: samples 0, 1, 2, shrink refused 5.", of every state
  pub samples_of_3 : (s : ℕ) → S s 3 3 ≡ 0 ∷ 1 ∷ 2 ∷ []
  pub shrink_of_3 : (s : ℕ) → shrink_call (chooser_of s 3 3) (0 ∷ 1 ∷ 2 ∷ []) ≡ refused 5 (chooser_state (chooser_of s 3 3) (0 ∷ 1 ∷ 2 ∷ []))
  -- "Three joins, then withdraw 1, 2 (count 2) or 2, 1 (count 1): the next join gives 1."
  pub count_after_1_2 : (a b c : ℕ) → (withdraw 2 (withdraw 1 (three_joins a b c))).map ≡ map_of 2
  pub join_after_1_2 : (a b c : ℕ) → (let h = withdraw 2 (withdraw 1 (three_joins a b c)) in (add_call h.map h.table).answer) ≡ result 1
  pub count_after_2_1 : (a b c : ℕ) → (withdraw 1 (withdraw 2 (three_joins a b c))).map ≡ map_of 1
  pub join_after_2_1 : (a b c : ℕ) → (let h = withdraw 1 (withdraw 2 (three_joins a b c)) in (add_call h.map h.table).answer) ≡ result 1
  -- "List 7, 1, 5, 2 with k = 2, n = 3, j = 1: admit in 5, out 2, list 7, 1, 5, n 6.", under every key: the fourth place of
  -- the list is not in use afterwards, and nothing is written
  pub admit_5 : (key : ℕ) → admit_call (reservoir_of key 2 3 1 4) (7 ∷ 1 ∷ 5 ∷ 2 ∷ []) ≡ after (result (some (5, 2))) (reservoir_state (reservoir_of key 2 6 1 3) (7 ∷ 1 ∷ 5 ∷ 2 ∷ []))
  -- The last two rows once more, of the round's own calls.
  pub round_count_1_2 : (key a b c : ℕ) → (withdrawn 2 (withdrawn 1 (three_joined key a b c))).round ≡ round_of key 1 1 0 1 2
  pub round_join_1_2 : (key a b c : ℕ) → (join_call (withdrawn 2 (withdrawn 1 (three_joined key a b c)))).answer ≡ result 1
  pub round_count_2_1 : (key a b c : ℕ) → (withdrawn 1 (withdrawn 2 (three_joined key a b c))).round ≡ round_of key 1 1 0 1 1
  pub round_join_2_1 : (key a b c : ℕ) → (join_call (withdrawn 1 (withdrawn 2 (three_joined key a b c)))).answer ≡ result 1
  pub round_admit_5 : (key : ℕ) → rounds.admit_call (state (round_of key 2 3 1 4 0) (7 ∷ 1 ∷ 5 ∷ 2 ∷ []) []) ≡ after (result (some (5, 2))) (state (round_of key 2 6 1 3 0) (7 ∷ 1 ∷ 5 ∷ 2 ∷ []) [])
