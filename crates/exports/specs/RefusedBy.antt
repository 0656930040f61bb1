-- The refusals of each call for C and Rust that has others than the library's call it makes, in the order in which they come; and what holds
-- of each that may be refused. That it has no others is the law of its list in proofs/RefusedLaws.antt, of rounds in RoundRefusedLaws.antt.
-- Assumes nothing.
use Rattle.std.specs.Prelude.{◌≡◌, cond, List, [], ◌∷◌, ℕ, ltb, length}
use Rattle.answers.specs.Answers.{Answer, refusal}
use Rattle.answers.specs.Refusing.{Spares}
use Rattle.exports.specs.Coded.{coded_by}
use Rattle.orders.specs.RefusedBy as orders
use Rattle.choosers.specs.RefusedBy as choosers
use Rattle.rounds.specs.RefusedBy as rounds

-- Demand 1, of a call that said t and answers a number: that is t, coded; where t is a refusal, that is one of its numbers ws, and all that
-- was lent, which stood as `before` and stands as `now`, is as it was.
abbrev pub Crosses : {A M : Type 0} → (A → ℕ) → List ℕ → Answer A → ℕ → M → M → Type 0
Crosses value ws t answer before now = (answer ≡ coded_by value t) × Spares ws t before now

-- what is said on a record of c words: the refusal w where there are fewer, else what the library's call says
abbrev pub said_else : {A : Type 0} → ℕ → ℕ → List ℕ → Answer A → Answer A
said_else w c ws t = cond (ltb (length ws) c) (refusal w) t

abbrev pub said_by : {A : Type 0} → ℕ → List ℕ → Answer A → Answer A
said_by c ws t = said_else 4 c ws t

-- ---- numbers alone

-- 12: "a layer above 14, or a layer's input not below its size"
abbrev pub layer_xors_refusals : List ℕ
layer_xors_refusals = 12 ∷ []

-- 12: "a layer above 14"; 02, §1: "12 if that isn't below the size"
abbrev pub input_xors_refusals : List ℕ
input_xors_refusals = 12 ∷ []

-- 1: "n above .. 2^62 (hashes, choosers)"
abbrev pub hash_digest_refusals : List ℕ
hash_digest_refusals = 1 ∷ []

-- 1: "n above 2^30 (orders, reservoirs, rounds)"
abbrev pub order_digest_refusals : List ℕ
order_digest_refusals = 1 ∷ []

-- ---- records as words

-- what makes a record is refused 4, "a lent list shorter than what must be written", for words that are too few as for a list,
abbrev pub order_new_refusals : List ℕ
order_new_refusals = 1 ∷ 4 ∷ []

abbrev pub chooser_new_refusals : List ℕ
chooser_new_refusals = 1 ∷ 4 ∷ []

-- and what is called on one before all else: there is no record that could be tested.
abbrev pub words_refusals : List ℕ
words_refusals = 4 ∷ []

abbrev pub order_next_refusals : List ℕ
order_next_refusals = 4 ∷ orders.order_next_refusals

abbrev pub reservoir_next_refusals : List ℕ
reservoir_next_refusals = 4 ∷ orders.admit_refusals

abbrev pub reservoir_grow_layer_refusals : List ℕ
reservoir_grow_layer_refusals = 4 ∷ orders.grow_layer_refusals

abbrev pub reservoir_sample_refusals : List ℕ
reservoir_sample_refusals = 4 ∷ orders.sample_refusals

abbrev pub chooser_grow_refusals : List ℕ
chooser_grow_refusals = 4 ∷ choosers.grow_refusals

abbrev pub chooser_next_refusals : List ℕ
chooser_next_refusals = 4 ∷ choosers.next_refusals

abbrev pub chooser_shrink_refusals : List ℕ
chooser_shrink_refusals = 4 ∷ choosers.shrink_refusals

abbrev pub round_admit_refusals : List ℕ
round_admit_refusals = 4 ∷ rounds.admit_refusals

abbrev pub round_join_refusals : List ℕ
round_join_refusals = 4 ∷ rounds.join_refusals

abbrev pub round_withdraw_refusals : List ℕ
round_withdraw_refusals = 4 ∷ rounds.withdraw_refusals

abbrev pub round_plan_refusals : List ℕ
round_plan_refusals = 4 ∷ rounds.plan_refusals
