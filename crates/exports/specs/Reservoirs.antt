-- How a reservoir crosses to C and Rust: its record as six words, its answers as one number.
-- Assumes nothing.
use Rattle.std.specs.Prelude.{List, [], ◌∷◌, ℕ, ◌+◌, ◌*◌, ◌/◌, ◌%◌, ◌^◌, get_or}
use Rattle.std.proofs.Math.Option.{Option, none, some}
use Rattle.answers.specs.Making.{short_refusal}
use Rattle.orders.specs.declared.consistent_reservoir.ConsistentReservoir.{ConsistentReservoir}
use Rattle.orders.specs.ReservoirCalls.{key_of, j_of, reservoir_of, ReservoirState, reservoir_state, fitting, open_call, admit_call, grow_layer_call, sample_call}
use Rattle.exports.specs.Coded.{truth}
use Rattle.exports.specs.Crossings.{Crossed, WordsList, words_list, Layout, Lending, made, called, read_by, fits_by}

-- the key's low and high 32 bits, k, n, the layer and the used length
abbrev pub words_of : ConsistentReservoir → List ℕ
words_of r = key_of r % 2 ^ 32 ∷ key_of r / 2 ^ 32 ∷ r.k ∷ r.n ∷ j_of r ∷ r.used ∷ []

abbrev pub record_of : List ℕ → ConsistentReservoir
record_of ws = reservoir_of (get_or ws 1 0 * 2 ^ 32 + get_or ws 0 0) (get_or ws 2 0) (get_or ws 3 0) (get_or ws 4 0) (get_or ws 5 0)

abbrev pub reservoir_layout : Layout ConsistentReservoir
reservoir_layout = record { count = 6; words = words_of; reads = record_of }

abbrev pub reservoir_lending : Lending ConsistentReservoir ReservoirState WordsList
reservoir_lending = record { layout = reservoir_layout; own = λ s. s.reservoir; lay = λ ws s. words_list ws s.list }

-- the location in times 2^32 plus the one out, none as 2^63
abbrev pub exchange_number : Option (ℕ × ℕ) → ℕ
exchange_number none = 2 ^ 63
exchange_number (some x) = x.0 * 2 ^ 32 + x.1

-- ---- what the calls leave

unfoldable pub new_crossed : ℕ → ℕ → ℕ → List ℕ → List ℕ → Crossed WordsList
new_crossed key k n ws l = made reservoir_layout (short_refusal (2 ^ 30) 1 k n) words_list ws l (open_call k n key l)

unfoldable pub next_crossed : List ℕ → List ℕ → Crossed WordsList
next_crossed ws l = called reservoir_lending exchange_number ws (reservoir_state (record_of ws) l) (λ s. admit_call s.reservoir s.list)

unfoldable pub grow_crossed : List ℕ → List ℕ → Crossed WordsList
grow_crossed ws l = called reservoir_lending (λ u. 0) ws (reservoir_state (record_of ws) l) (λ s. grow_layer_call s.reservoir s.list)

unfoldable pub sample_crossed : List ℕ → List ℕ → List ℕ → Crossed (List ℕ)
sample_crossed ws l o = read_by reservoir_layout (λ u. 0) ws o (sample_call (record_of ws) l o)

unfoldable pub fits_crossed : List ℕ → List ℕ → ℕ
fits_crossed ws l = fits_by reservoir_layout ws (truth (fitting (record_of ws) l))
