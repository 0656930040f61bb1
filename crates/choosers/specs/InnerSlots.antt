-- What private functions of the slot maps answer. No public promise cites it.
-- Assumes nothing.
use Rattle.std.specs.Prelude.{◌≢◌, List, ℕ, ◌<◌, get_or}

-- none of the first x bytes is 0
abbrev pub Taken : List ℕ → ℕ → Type 0
Taken t x = (i : ℕ) → i < x → get_or t i 0 ≢ 0
