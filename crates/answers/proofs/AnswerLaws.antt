-- What two calls say: equal answers have equal values, equal refusals equal numbers, and a refusal is no answer.
-- Assumes nothing.
use mathlib.Core.Path.{◌≡◌}
use mathlib.Core.Bool.{true, false, true≢false}
use Prim.Native.Nat.{ℕ}
use Rattle.answers.specs.Answers.{Answer, refusal, result}

pub not_said : {A C : Type 0} (w : ℕ) (x : A) → refusal w ≡ result x → C
not_said w x e = let z : true ≡ false = cc in absurd (true≢false z)

pub said_same : {A : Type 0} (x y : A) → result x ≡ result y → x ≡ y
said_same x y e = cc

pub refusal_same : {A : Type 0} (v w : ℕ) → ◌≡◌ {A = Answer A} (refusal v) (refusal w) → v ≡ w
refusal_same v w e = cc
