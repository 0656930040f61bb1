-- How a chooser crosses to C and Rust: its record as three words, its answers as one number (Coded.antt).
-- Assumes nothing.
use Rattle.std.specs.Prelude.{List, [], ◌∷◌, ℕ, ◌^◌, get_or}
use Rattle.answers.specs.Answers.{after}
use Rattle.answers.specs.Making.{short_refusal}
use Rattle.choosers.specs.declared.choose_k.ConsistentChooseKHasher.{ConsistentChooseKHasher}
use Rattle.choosers.specs.ChooserCalls.{chooser_of, ChooserState, chooser_state, fitting, new_call, new_with_k_call, grow_call, next_call, shrink_call}
use Rattle.exports.specs.Coded.{truth, found_number}
use Rattle.exports.specs.Crossings.{Crossed, WordsList, words_list, Layout, Lending, made, called, fits_by}

-- the state, n and k
abbrev pub chooser_words : ConsistentChooseKHasher → List ℕ
chooser_words c = c.state ∷ c.n ∷ c.k ∷ []

abbrev pub chooser_as : List ℕ → ConsistentChooseKHasher
chooser_as ws = chooser_of (get_or ws 0 0) (get_or ws 1 0) (get_or ws 2 0)

abbrev pub chooser_layout : Layout ConsistentChooseKHasher
chooser_layout = record { count = 3; words = chooser_words; reads = chooser_as }

abbrev pub chooser_lending : Lending ConsistentChooseKHasher ChooserState WordsList
chooser_lending = record { layout = chooser_layout; own = λ s. s.chooser; lay = λ ws s. words_list ws s.list }

-- ---- what the calls leave

unfoldable pub new_crossed : ℕ → ℕ → List ℕ → Crossed (List ℕ)
new_crossed s n ws = made {N = Unit {0}} chooser_layout (short_refusal (2 ^ 62) 0 0 n) (λ v u. v) ws tt (after (new_call s n) tt)

unfoldable pub new_with_k_crossed : ℕ → ℕ → ℕ → List ℕ → List ℕ → Crossed WordsList
new_with_k_crossed s k n ws l = made chooser_layout (short_refusal (2 ^ 62) 0 k n) words_list ws l (new_with_k_call s n k l)

unfoldable pub grow_crossed : List ℕ → List ℕ → Crossed WordsList
grow_crossed ws l = called chooser_lending (λ x. x) ws (chooser_state (chooser_as ws) l) (λ s. grow_call s.chooser s.list)

unfoldable pub next_crossed : List ℕ → List ℕ → Crossed WordsList
next_crossed ws l = called chooser_lending found_number ws (chooser_state (chooser_as ws) l) (λ s. next_call s.chooser s.list)

unfoldable pub shrink_crossed : List ℕ → List ℕ → Crossed WordsList
shrink_crossed ws l = called chooser_lending (λ x. x) ws (chooser_state (chooser_as ws) l) (λ s. shrink_call s.chooser s.list)

unfoldable pub fits_crossed : List ℕ → List ℕ → ℕ
fits_crossed ws l = fits_by chooser_layout ws (truth (fitting (chooser_as ws) l))
