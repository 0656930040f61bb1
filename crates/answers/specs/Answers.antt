-- What a public call answers, and what it leaves. Document 01: "For an answer that is an enum, a definition gives this paper's number and
-- values for each case." Every promise about such an answer uses this type.
-- Assumes nothing.
use Rattle.std.specs.Prelude.{Bool, true, false, ℕ}

-- Demand 1: "The answer to each public call, for every input, is a result or one of document 01's twelve refusals." Document 02 adds
-- more, which count "as if 01 said it".
pub data Answer (A : Type 0) : Type 0 where
  refusal : ℕ → Answer A
  result : A → Answer A

-- the same refusal, or f of the result
abbrev pub map_answer : {A B : Type 0} → (A → B) → Answer A → Answer B
map_answer f (refusal w) = refusal w
map_answer f (result x) = result (f x)

-- whether it is a refusal
abbrev pub is_refusal : {A : Type 0} → Answer A → Bool
is_refusal (refusal w) = true
is_refusal (result x) = false

-- what a call answers, and what it leaves of all that it may write: a record, lists, a table
pub record After (M A : Type 0) : Type 0 where
  pub answer : Answer A
  pub left : M

abbrev pub after : {M A : Type 0} → Answer A → M → After M A
after a m = record { answer = a; left = m }

-- "A refusal returns its number and changes no lent list, table or record."
abbrev pub refused : {M A : Type 0} → ℕ → M → After M A
refused w m = after (refusal w) m
