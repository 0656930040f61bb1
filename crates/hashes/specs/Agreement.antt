-- Document 02, §4: "Falling and rising then agree": `AgreementHolds`, proved as `agree` (proofs/AgreeLaws.antt).
-- Assumes nothing.
use Rattle.std.specs.Prelude.{◌≡◌, true, ◌↔◌, ℕ, ◌+◌, ◌^◌, ◌<◌}
use Rattle.std.proofs.Math.Option.{Option, some}
use Rattle.answers.specs.Answers.{Answer, refusal, result}
use Rattle.hashes.specs.declared.ConsistentHashIterator.{ConsistentHashIterator}
use Rattle.hashes.specs.Hashes.{is_hash}
use Rattle.hashes.specs.Calls.{prev_call, next_call}
use Rattle.hashes.specs.Walks.{rising_from, rise}

-- what a walk that `new` made begins with: what its first `next` gives
abbrev pub begins : Answer ConsistentHashIterator → Answer (Option ℕ)
begins (result w) = (rise w).answer
begins (refusal c) = refusal c

-- falling and rising agree at n
pub record Agree (s n : ℕ) : Type 0 where
  -- "n is a hash exactly if the rising walk from n begins with n": the walk that `new` makes, and what the hasher's `next` says of n
  pub walk : (is_hash s n ≡ true) ↔ (begins (rising_from n s) ≡ result (some n))
  pub next : (is_hash s n ≡ true) ↔ (next_call s n ≡ result (some n))
  -- "and exactly if prev of n+1 is n"
  pub prev : (is_hash s n ≡ true) ↔ (prev_call s (n + 1) ≡ result (some n))

-- "for n below 2^62", and of every state
abbrev pub AgreementHolds : Type 0
AgreementHolds =
    (s n : ℕ) → n < 2 ^ 62 → Agree s n
