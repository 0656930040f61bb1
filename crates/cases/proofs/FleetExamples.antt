-- Two terminals whose lists have different lengths, computed on the definitions: with 64 places the third admit is refused, with 8,192 it is
-- not, and after it their samples differ.
-- Assumes nothing.
use mathlib.Core.Path.{◌≡◌, refl}
use mathlib.Core.List.{[], ◌∷◌}
use lib.ListN.{take}
use Prim.Native.Nat.{ℕ}
use Rattle.answers.specs.Answers.{result, refusal}
use Rattle.lists.specs.Lists.{below, same, has}
use Rattle.words.specs.Words.{rotate_right}
use Rattle.layers.specs.Layer.{start, round_function, next_key, round, rounds, over, layer, top_bits}
use Rattle.orders.specs.Orders.{log2, layer_of, output, counted, zero_top, whole, P}
use Rattle.orders.specs.Reservoirs.{counts, opening, due, kth}
use Rattle.rounds.specs.Ledgers.{admit, Ledger, ledger, accept, answer}
use Rattle.rounds.specs.Outcomes.{reply}

abbrev at : ℕ → Ledger
at n = ledger 0xC1B3_2827_47FD_4B1E 4 n [] 0

-- from an open of 4 of 40 locations two admits reach 61
abbrev reached : Ledger
reached = at 61

pub two_admits : accept (accept (at 40) admit) admit ≡ reached
unfolding accept due P whole layer_of log2 below same has output counted zero_top top_bits layer start rounds round round_function next_key over rotate_right
two_admits = refl

pub short_list : reply reached 64 512 admit ≡ refusal 4
unfolding reply answer opening due kth P whole layer_of log2 counts below same has output counted zero_top top_bits layer start rounds round round_function next_key over rotate_right
short_list = refl

pub long_list : reply reached 8192 512 admit ≡ result (64 ∷ 14 ∷ [])
unfolding reply answer opening due kth P whole layer_of log2 counts below same has output counted zero_top top_bits layer start rounds round round_function next_key over rotate_right
long_list = refl

-- so their samples, and with them their plans, differ: 14 has gone out on the second alone
pub short_sample : take 4 (P 0xC1B3_2827_47FD_4B1E 61) ≡ 49 ∷ 60 ∷ 34 ∷ 14 ∷ []
unfolding P whole layer_of log2 below same has output counted zero_top top_bits layer start rounds round round_function next_key over rotate_right
short_sample = refl

pub long_sample : take 4 (P 0xC1B3_2827_47FD_4B1E 65) ≡ 49 ∷ 60 ∷ 64 ∷ 34 ∷ []
unfolding P whole layer_of log2 below same has output counted zero_top top_bits layer start rounds round round_function next_key over rotate_right
long_sample = refl
