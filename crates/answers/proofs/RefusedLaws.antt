-- Demand 1 of the calls here: a refusal is one of their own. Nothing is lent to be written.
-- Assumes nothing.
use mathlib.Core.Path.{◌≡◌, refl}
use mathlib.Core.Bool.{true}
use Prim.Native.Nat.{ℕ}
use Rattle.lists.specs.Lists.{same, has}
use Rattle.answers.specs.Answers.{Answer, refusal, result}
use Rattle.answers.specs.Refusing.{Among}
use Rattle.answers.specs.Making.{by_sizes, short_refusal}
use Rattle.answers.specs.RefusedBy.{sizes_refusals, short_refusals}
use Rattle.answers.proofs.MakingLaws.{sizes_by}

pub sizes_refuses : (limit least k n : ℕ) → Among {A = Unit {0}} sizes_refusals (by_sizes limit least k n refusal (result tt))
unfolding has same
sizes_refuses limit least k n = sizes_by limit least k n (Among {A = Unit {0}} sizes_refusals) refusal (result tt) (λ y. refl) (λ y. refl) (λ y. refl) (λ s. tt)

pub short_refuses : (limit least k n : ℕ) → has (short_refusal limit least k n) short_refusals ≡ true
unfolding has same
short_refuses limit least k n = sizes_by limit least k n (λ w. has w short_refusals ≡ true) (λ w. w) 4 (λ y. refl) (λ y. refl) (λ y. refl) (λ s. refl)
