-- What the promises of private functions on what a walk found say. No public promise cites this file.
-- Assumes nothing.
use Rattle.std.specs.Prelude.{ℕ}
use Rattle.std.proofs.Math.Option.{Option, none, some}
use Rattle.answers.specs.Answers.{Answer, refusal, result}
use Rattle.hashes.specs.Hashes.{feed}

-- a state fed with the hash, where one was said
abbrev pub fed_with : ℕ → Answer (Option ℕ) → ℕ
fed_with d (refusal c) = d
fed_with d (result none) = d
fed_with d (result (some x)) = feed d x
