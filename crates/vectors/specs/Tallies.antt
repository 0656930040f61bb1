-- What a tally counts.
-- Assumes nothing.
use Rattle.std.specs.Prelude.{ℕ, ◌+◌, ◌-◌, ◌^◌, min, Bool, false, true, Option, Some, None}
use Rattle.vectors.specs.declared.tally.Tally.{Tally}

-- one more; the largest number of 64 bits stays as it is
abbrev pub more : ℕ → ℕ
more n = min (n + 1) (2 ^ 64 - 1)

-- the first line that differs stays the first
abbrev pub first_of : ℕ → Option ℕ → Option ℕ
first_of line None = Some line
first_of line (Some first) = Some first

-- an answer with which the library agrees, or not: a difference is counted, and its line kept where it is the first
abbrev pub judged : Bool → Tally → Tally
judged true t = record t { compared = more t.compared }
judged false t = record t { compared = more t.compared; differ = more t.differ; first = first_of t.line t.first }

-- a line, which may have no answer
abbrev pub taken : Option Bool → Tally → Tally
taken None t = record t { line = more t.line }
taken (Some agrees) t = record (judged agrees t) { line = more t.line }
