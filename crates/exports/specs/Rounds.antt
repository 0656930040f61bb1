-- How a round crosses to C and Rust: its record as seven words, its answers as one number.
-- Assumes nothing.
use Rattle.std.specs.Prelude.{◌≡◌, ◌≢◌, List, [], ◌∷◌, map, ℕ, ◌+◌, ◌*◌, ◌/◌, ◌%◌, ◌^◌, ◌≤◌, get_or}
use Rattle.answers.specs.Making.{short_refusal}
use Rattle.rounds.specs.declared.round.Round.{Round}
use Rattle.rounds.specs.Rounds.{State, state, fitting, open_call, admit_call, join_call, withdraw_call}
use Rattle.rounds.specs.Plans.{PlanLists, plan_lists, plan_call}
use Rattle.rounds.specs.Replays.{ReplayMemory, replay_call, ByLedger}
use Rattle.rounds.specs.Calls.{call_of}
use Rattle.exports.specs.Coded.{truth, coded_done}
use Rattle.exports.specs.Crossings.{Crossed, crossed, WordsList, words_list, Layout, Lending, made, called, read_by, fits_by}
use Rattle.exports.specs.Reservoirs.{exchange_number}

-- the key's low and high 32 bits, k, n, the layer, the used length and the slot count
abbrev pub round_words : Round → List ℕ
round_words r = r.master_key % 2 ^ 32 ∷ r.master_key / 2 ^ 32 ∷ r.k ∷ r.n ∷ r.j_max ∷ r.used ∷ r.total ∷ []

abbrev pub round_as : List ℕ → Round
round_as ws = record { master_key = get_or ws 1 0 * 2 ^ 32 + get_or ws 0 0; k = get_or ws 2 0; n = get_or ws 3 0; j_max = get_or ws 4 0; used = get_or ws 5 0; total = get_or ws 6 0 }

abbrev pub round_layout : Layout Round
round_layout = record { count = 7; words = round_words; reads = round_as }

-- what the caller keeps: the record's words, the list and the table
pub record Lent : Type 0 where
  pub words : List ℕ
  pub list : List ℕ
  pub table : List ℕ

abbrev pub lent : List ℕ → List ℕ → List ℕ → Lent
lent ws l t = record { words = ws; list = l; table = t }

-- the round that stands in it
abbrev pub round_in : Lent → State
round_in x = state (round_as x.words) x.list x.table

abbrev pub round_lending : Lending Round State Lent
round_lending = record { layout = round_layout; own = λ s. s.round; lay = λ ws s. lent ws s.list s.table }

-- ---- open, admit, join and withdraw

-- the table is not lent to an open
unfoldable pub open_crossed : ℕ → ℕ → ℕ → List ℕ → List ℕ → Crossed WordsList
open_crossed key k n ws l = made round_layout (short_refusal (2 ^ 30) 1 k n) words_list ws l (open_call key k n l)

unfoldable pub admit_crossed : Lent → Crossed Lent
admit_crossed x = called round_lending exchange_number x.words (round_in x) admit_call

-- the slot
unfoldable pub join_crossed : Lent → Crossed Lent
join_crossed x = called round_lending (λ slot. slot) x.words (round_in x) join_call

unfoldable pub withdraw_crossed : ℕ → Lent → Crossed Lent
withdraw_crossed slot x = called round_lending (λ u. 0) x.words (round_in x) (λ s. withdraw_call s slot)

-- ---- plan, and the test

unfoldable pub plan_crossed : Lent → List ℕ → List ℕ → ℕ → Crossed PlanLists
plan_crossed x ls ts places = read_by round_layout (λ u. 0) x.words (plan_lists ls ts) (plan_call (round_in x) ls ts places)

unfoldable pub fits_crossed : Lent → ℕ
fits_crossed x = fits_by round_layout x.words (truth (fitting (round_in x)))

-- ---- replay

unfoldable pub replay_crossed : ℕ → ℕ → ℕ → List ℕ → List ℕ → List ℕ → List ℕ → List ℕ → List ℕ → ℕ → Crossed ReplayMemory
replay_crossed key k n codes l t ws ls ts places =
    let a = replay_call key k n codes l t ws ls ts places in
    crossed (coded_done a.answer) a.left

-- a refusal leaves the scratch, and so does a replay whose plan was refused: its answer stands behind those of c calls
abbrev pub ReplayScratchAs : ℕ → ℕ → List ℕ → List ℕ → List ℕ → Type 0
ReplayScratchAs a c ws before now = (2 ^ 63 ≤ a → now ≡ before) × (get_or ws (4 * c) 0 ≢ 0 → now ≡ before)

-- demand 3 in the ledger's terms alone, where it answers 0
abbrev pub ReplayedAs : ℕ → ℕ → ℕ → ℕ → List ℕ → ℕ → ℕ → List ℕ → List ℕ → List ℕ → Type 0
ReplayedAs a key k n codes bytes places ws ls ts = a ≡ 0 → ByLedger key k n (map call_of codes) bytes places ws ls ts
