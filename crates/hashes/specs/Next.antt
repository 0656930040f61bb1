-- Document 02, §4: what the rising walk gives. It takes the place of document 01's sentence by which the walk left n out at some n.
-- Assumes nothing.
use Rattle.std.specs.Prelude.{ℕ}
use Rattle.std.proofs.Math.Option.{Option}
use Rattle.lists.specs.Lists.{keep, not_below, smallest}
use Rattle.hashes.specs.Hashes.{hashes}

-- "the walk from n gives the smallest hash of n or more, n itself included at every n": of any m, since a later step asks it of the number
-- above a hash
unfoldable pub smallest_from : ℕ → ℕ → Option ℕ
smallest_from s m = smallest (keep (not_below m) (hashes s))
