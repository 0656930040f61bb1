-- That a layer is a permutation, with its inverse. The inverse undoes the rounds, the last first. No public promise cites this file.
-- Assumes nothing.
use Rattle.std.specs.Prelude.{ℕ, zero, suc, ◌+◌, ◌-◌, ◌*◌, ◌%◌, ◌^◌, bit_xor}
use Rattle.words.specs.Words.{rotate_right}
use Rattle.lists.specs.Permutations.{Permutation}
use Rattle.layers.specs.declared.feistel.Halves.{Halves}
use Rattle.layers.specs.Layer.{size, round_count, start, round_function, next_key, over, layer}

-- the halves with K set
abbrev pub under : ℕ → Halves → Halves
under K s = record { l = s.l; r = s.r; key = K }

-- one round undone: K is the key that the round had
unfoldable pub undo : ℕ → ℕ → Halves → Halves
undo h K s = record { l = bit_xor s.r (round_function h s.l K); r = s.l; key = K }

-- the key after n rounds, of which the first has the key K
unfoldable pub last_key : ℕ → ℕ → ℕ → ℕ
last_key h zero K = K
last_key h (suc n) K = last_key h n (next_key h K)

-- K of the round before: K less 0x9E3779B97F4A7C15, modulo 2^64, rotated back
unfoldable pub prev_key : ℕ → ℕ → ℕ
prev_key h K = rotate_right ((K + (2 ^ 64 - 0x9E37_79B9_7F4A_7C15)) % 2 ^ 64) (64 - 2 * h)

-- n rounds undone: K is the key that the first of them had, and the halves' own key is not read
unfoldable pub back : ℕ → ℕ → ℕ → Halves → Halves
back h zero K s = under K s
back h (suc n) K s = undo h K (back h n (next_key h K) s)

-- the input of layer j that gives y, by the rounds undone
unfoldable pub unlayer : ℕ → ℕ → ℕ → ℕ
unlayer j key y =
    let h = j + 1 in
    over h (back h (round_count j) key (start h key y))

-- "Layer j, 0 to 14, permutes 0..4^(j+1)."
abbrev pub Permutes : ℕ → ℕ → Type 0
Permutes j key = Permutation (size j) (layer j key) (unlayer j key)
