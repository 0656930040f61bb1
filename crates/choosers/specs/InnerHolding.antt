-- How the places of a list hold samples: alone, or with the sequence's own value beside. No public promise cites it.
-- Assumes nothing.
use Rattle.std.specs.Prelude.{◌≡◌, List, map, ℕ, ◌+◌, ◌/◌, ◌%◌, ◌^◌, ◌<◌, get_or, take}
use Rattle.choosers.specs.Choosers.{g, S}

-- place i keeps what it is to keep of sequence i, for the first k places
abbrev pub Kept : (ℕ → ℕ → ℕ → Type 0) → ℕ → List ℕ → ℕ → Type 0
Kept K s l k = (i : ℕ) → i < k → K s i (get_or l i 0)

-- the first k samples ascend
abbrev pub Rises : List ℕ → ℕ → Type 0
Rises xs k = (a b : ℕ) → a < b → b < k → get_or xs a 0 < get_or xs b 0

-- all of them but the last are below m
abbrev pub Under : List ℕ → ℕ → ℕ → Type 0
Under xs k m = (a : ℕ) → a + 1 < k → get_or xs a 0 < m

-- ---- a sample in the low half of a place, and in the high half its sequence's own value below the sample + 1

abbrev pub low : ℕ → ℕ
low e = e % 2 ^ 32

-- the place e of sequence i has that value
abbrev pub Beside : ℕ → ℕ → ℕ → Type 0
Beside s i e = e / 2 ^ 32 ≡ g s i (e % 2 ^ 32 + 1)

-- the samples of a list of places
abbrev pub lows : List ℕ → List ℕ
lows l = map low l

-- the first k samples are S(k, n), each with its sequence's value
abbrev pub Stands : ℕ → List ℕ → ℕ → ℕ → Type 0
Stands s l k n = (take k (lows l) ≡ S s k n) × Kept Beside s l k
