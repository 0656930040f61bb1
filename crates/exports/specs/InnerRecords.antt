-- What is written to a record's words: no part of a promise.
-- Assumes nothing.
use Rattle.std.specs.Prelude.{List}
use Rattle.answers.specs.Answers.{Answer, refusal, result}

-- the words after a call that makes a record: `over` says how they have it; a refusal leaves them
abbrev pub made_over : {A W : Type 0} → (List W → A → List W) → List W → Answer A → List W
made_over over ws (result r) = over ws r
made_over over ws (refusal w) = ws
