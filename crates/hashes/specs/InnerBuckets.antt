-- What was found where a bucket was looked for. No public promise cites this file.
-- Assumes nothing.
use Rattle.std.specs.Prelude.{Option, Some, None, ℕ}
use Rattle.hashes.specs.declared.buckets.Bucket.{Bucket}

-- the place of a bucket, 63 for none
abbrev pub place_of : Option Bucket → ℕ
place_of (Some b) = b.place
place_of None = 63
