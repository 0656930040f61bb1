-- What the hasher's calls say.
-- Assumes nothing.
use Rattle.std.specs.Prelude.{cond, ℕ, ◌^◌, ltb}
use Rattle.std.proofs.Math.Option.{Option, get_or}
use Rattle.answers.specs.Answers.{Answer, refusal, result}
use Rattle.hashes.specs.Hashes.{prev}
use Rattle.hashes.specs.Next.{smallest_from}

-- 1: "n above .. 2^62 (hashes, choosers)"
unfoldable pub limited : {A : Type 0} → ℕ → A → Answer A
limited n answer = cond (ltb (2 ^ 62) n) (refusal 1) (result answer)

-- `prev` and `into_prev`
abbrev pub prev_call : ℕ → ℕ → Answer (Option ℕ)
prev_call s n = limited n (prev s n)

-- `next`
abbrev pub next_call : ℕ → ℕ → Answer (Option ℕ)
next_call s n = limited n (smallest_from s n)

-- prev as a number, for the laws and for choosers, who ask only for n above 0: 0 where there is none
unfoldable pub prev_number : ℕ → ℕ → ℕ
prev_number s n = get_or (prev s n) 0
