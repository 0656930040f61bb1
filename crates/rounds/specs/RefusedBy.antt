-- The refusals of each call, in document 01's order. That it has no others is the law of its list in proofs/RefusedLaws.antt.
-- Assumes nothing.
use Rattle.std.specs.Prelude.{List, [], ◌∷◌, ℕ}

-- `open`: "1 n above 2^30 (orders, reservoirs, rounds)", "2 k is 0", "3 k above n", "4 a lent list shorter than what must be written"
abbrev pub open_refusals : List ℕ
open_refusals = 1 ∷ 2 ∷ 3 ∷ 4 ∷ []

-- `admitted` and `Round::admit`. 12: "each checks the record against both"; 4: "(for a reservoir's list, than the used length that the
-- call would end with)"
abbrev pub admit_refusals : List ℕ
admit_refusals = 12 ∷ 4 ∷ []

-- `joined` and `Round::join`: "9 add with no deleted slot and the count at the table's length, or 65,536"
abbrev pub join_refusals : List ℕ
join_refusals = 12 ∷ 9 ∷ []

-- `withdrawn` and `Round::withdraw`: "10 remove of a slot not active"
abbrev pub withdraw_refusals : List ℕ
withdraw_refusals = 12 ∷ 10 ∷ []

-- `plan`. 4: "a lent list shorter than what must be written .., or scratch shorter than the smaller of the table's length and 65,536";
-- "11 .. plan with none active"
abbrev pub plan_refusals : List ℕ
plan_refusals = 12 ∷ 4 ∷ 11 ∷ []

-- `replay`. 12: a number that is no call; then as `open`, 4 also for an answers' list that is too short. What its calls and its plan are
-- refused stands among its answers.
abbrev pub replay_refusals : List ℕ
replay_refusals = 12 ∷ 1 ∷ 2 ∷ 3 ∷ 4 ∷ []
