-- A walk over all calls, from what one call does.
-- Assumes nothing.
use mathlib.Core.Path.{◌≡◌, refl}
use mathlib.Core.List.{List, [], ◌∷◌}
use mathlib.Core.Option.{none, some}
use Prim.Native.Nat.{ℕ, zero, suc}
use Rattle.answers.specs.Answers.{result}
use Rattle.answers.specs.Steps.{Step, answers, one_by_one}

-- a step of a walk, of which `rest` says what it is still to give: nothing is left, before and after, or it gives the first
pub data Turn {W : Type 0} (step : W → Step W) (rest : W → List ℕ) (good : W → Type 0) (w : W) : Type 0 where
  ended : (step w).answer ≡ result none → good (step w).left → rest (step w).left ≡ [] → rest w ≡ [] → Turn step rest good w
  gave : (x : ℕ) → (step w).answer ≡ result (some x) → good (step w).left → rest w ≡ x ∷ rest (step w).left → Turn step rest good w

module _ {W : Type 0} {step : W → Step W} {rest : W → List ℕ} {good : W → Type 0} (turn : (w : W) → good w → Turn step rest good w) where
  answer_on : (k : ℕ) (w : W) → ((v : W) → good v → answers step k v ≡ one_by_one k (rest v)) → Turn step rest good w → answers step (suc k) w ≡ one_by_one (suc k) (rest w)
  unfolding answers one_by_one
  answer_on k w ih (ended said stays nothing empty) = rw (said, ih (step w).left stays, nothing, empty)
  answer_on k w ih (gave x said more splits) = rw (said, ih (step w).left more, splits)

  pub all_answers : (k : ℕ) (w : W) → good w → answers step k w ≡ one_by_one k (rest w)
  unfolding answers one_by_one
  all_answers zero w g = refl
  all_answers (suc k) w g = answer_on k w (λ v h. all_answers k v h) (turn w g)
