-- Calls on a round as numbers: which number is which call, and how a number is read.
-- Assumes nothing.
use Rattle.std.specs.Prelude.{◌≡◌, true, false, Bool, cond, ◌||◌, ℕ, ◌+◌, ◌^◌, ◌/◌, ◌%◌, eqb, Result, MatchResult}
use Rattle.answers.specs.declared.Refusal.{Refusal}
use Rattle.answers.specs.declared.Refusal.TheVariants.{Misfit}
use Rattle.rounds.specs.declared.calls.Call as numbered
use Rattle.rounds.specs.declared.calls.Call.TheVariants.{Admit, Join, Withdraw}
use Rattle.rounds.specs.Ledgers.{Call, admit, join, withdraw}

-- 0 is an admit, 1 a join, 2^32 + s the withdraw of slot s; no other number is a call
unfoldable pub known : ℕ → Bool
known x = eqb x 0 || eqb x 1 || eqb (x / 2 ^ 32) 1

unfoldable pub call_of : ℕ → Call
call_of x = cond (eqb x 0) admit (cond (eqb x 1) join (withdraw (x % 2 ^ 32)))

-- the number of a call
abbrev pub number_of : Call → ℕ
number_of admit = 0
number_of join = 1
number_of (withdraw s) = 2 ^ 32 + s

-- the code's call as the ledger's: "each by name with its numbers"
abbrev pub as_call : numbered.Call → Call
as_call Admit = admit
as_call Join = join
as_call (Withdraw x) = withdraw x

-- a number is read as the call that it is, and any other number is refused 12
abbrev pub Reads : ℕ → Result numbered.Call Refusal → Type 0
Reads x r = MatchResult r (λ c. (known x ≡ true) × (as_call c ≡ call_of x)) (λ why. (known x ≡ false) × (why ≡ Misfit))
