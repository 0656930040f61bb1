-- The two walks. Document 01: "Both hash walks, one hash a call, then none." Where the rising one starts is document 02's, §4.
-- Assumes nothing.
use Rattle.std.specs.Prelude.{cond, List, ℕ, ◌+◌, ◌-◌, ◌^◌, ltb}
use Rattle.std.proofs.Math.Option.{Option, none, some}
use Rattle.answers.specs.Answers.{Answer, result, after, refused}
use Rattle.answers.specs.Steps.{Step}
use Rattle.lists.specs.Lists.{keep, from, down}
use Rattle.hashes.specs.declared.ConsistentHashRevIterator.{ConsistentHashRevIterator}
use Rattle.hashes.specs.declared.ConsistentHashIterator.{ConsistentHashIterator}
use Rattle.hashes.specs.Hashes.{is_hash, prev}
use Rattle.hashes.specs.Next.{smallest_from}
use Rattle.hashes.specs.Calls.{limited}

-- ---- falling

-- the walk from n down
abbrev pub falling_from : ℕ → ℕ → Answer ConsistentHashRevIterator
falling_from n s = limited n (record { state = s; n = n })

-- after a hash the walk goes on below it; where there is none it stays
abbrev pub go_on_below : ConsistentHashRevIterator → Option ℕ → Step ConsistentHashRevIterator
go_on_below w none = after (result none) w
go_on_below w (some x) = after (result (some x)) (record { state = w.state; n = x })

-- any walk: the largest hash below its n. 1 for an n above 2^62.
unfoldable pub fall : ConsistentHashRevIterator → Step ConsistentHashRevIterator
fall w = cond (ltb (2 ^ 62) w.n) (refused 1 w) (go_on_below w (prev w.state w.n))

-- every hash of s below n, in falling order, each once
unfoldable pub hashes_below : ℕ → ℕ → List ℕ
hashes_below s n = keep (is_hash s) (down n)

-- ---- rising

-- the walk from n up: it starts at n itself
abbrev pub rising_from : ℕ → ℕ → Answer ConsistentHashIterator
rising_from n s = limited n (record { state = s; low = n })

-- after a hash the walk goes on above it; where there is none it stays
abbrev pub go_on_above : ConsistentHashIterator → Option ℕ → Step ConsistentHashIterator
go_on_above w none = after (result none) w
go_on_above w (some x) = after (result (some x)) (record { state = w.state; low = x + 1 })

-- any walk: the smallest hash of its `low` or more
unfoldable pub rise : ConsistentHashIterator → Step ConsistentHashIterator
rise w = go_on_above w (smallest_from w.state w.low)

-- every hash of s from m up, in rising order, each once. No hash is 2^63 or more.
unfoldable pub hashes_from : ℕ → ℕ → List ℕ
hashes_from s m = keep (is_hash s) (from m (2 ^ 63 - m))
