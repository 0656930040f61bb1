-- What the hasher's answer is where a chooser asks for it.
-- Assumes nothing.
use mathlib.Core.Path.{◌≡◌, ap, ◌∙◌}
use mathlib.Core.Option.{some}
use Prim.Native.Nat.{ℕ, ◌-◌, ◌^◌, ◌≤◌, ◌<◌}
use native.Mathlib.Omega.{arith}
use Rattle.answers.specs.Answers.{result}
use Rattle.hashes.specs.Hashes.{feed}
use Rattle.hashes.specs.Calls.{prev_number, prev_call}
use Rattle.hashes.proofs.PrevLaws.{prev_is}
use Rattle.hashes.proofs.CallLaws.{limited_in}

-- a chooser asks only for n above 0 and within the limit: there is a hash
pub prev_answer : (s n : ℕ) → 0 < n → n ≤ 2 ^ 62 → prev_call s n ≡ result (some (prev_number s n))
prev_answer s n h l = limited_in n _ l ∙ ap result (prev_is s n h)

pub there : (s i n : ℕ) → i < n → n ≤ 2 ^ 62 → prev_call (feed s i) (n - i) ≡ result (some (prev_number (feed s i) (n - i)))
there s i n h l = prev_answer (feed s i) (n - i) (omega arith) (omega arith)
