-- The refusals of document 01, "By whom a refusal comes", and those that document 02 adds; and what a call that may be refused answers.
-- Assumes nothing.
use Rattle.std.specs.Prelude.{ℕ, Option, Some, None, Result, Ok, Err}
use Rattle.std.proofs.Math.Option as maybe
use Rattle.answers.specs.Answers.{Answer, refusal, result, map_answer}
use Rattle.answers.specs.declared.Refusal.{Refusal}
use Rattle.answers.specs.declared.Refusal.TheVariants.{NAboveLimit, KIsZero, KAboveN, ShortMemory, CannotShrink, AllChosen, NumbersWait, TopLayer, NoSlotLeft, SlotNotActive, NoneActive, Misfit, LocationNotBelowN}

-- each with its number
abbrev pub number : Refusal → ℕ
-- "n above 2^30 (orders, reservoirs, rounds) or 2^62 (hashes, choosers)"
number NAboveLimit = 1
-- "k is 0 (reservoir, round)"
number KIsZero = 2
-- "k above n"
number KAboveN = 3
-- "a lent list shorter than what must be written .., or scratch shorter than .."
number ShortMemory = 4
-- "shrink with k 0, n at most k, or samples 0..k−1"
number CannotShrink = 5
-- "grow with k = n"
number AllChosen = 6
-- "layer growth with used length above k"
number NumbersWait = 7
-- "the same at layer 14"
number TopLayer = 8
-- "add with no deleted slot and the count at the table's length, or 65,536"
number NoSlotLeft = 9
-- "remove of a slot not active"
number SlotNotActive = 10
-- "get or plan with none active"
number NoneActive = 11
-- "a record against its memory .."; "a program line of no known form"
number Misfit = 12
-- 02, §1: "13, the location isn't below n"
number LocationNotBelowN = 13

-- what a call answers: its refusal's number, or its result
abbrev pub answer_of : {A : Type 0} → Result A Refusal → Answer A
answer_of (Ok x) = result x
answer_of (Err why) = refusal (number why)

-- what was found, or none
abbrev pub optional : {A : Type 0} → Option A → maybe.Option A
optional (Some x) = maybe.some x
optional None = maybe.none

-- what a call answers that may find nothing
abbrev pub answer_of_option : {A : Type 0} → Result (Option A) Refusal → Answer (maybe.Option A)
answer_of_option r = map_answer optional (answer_of r)
