-- A walk: a call of `next` after the other, each on what the one before left.
-- Assumes nothing.
use Rattle.std.specs.Prelude.{List, [], ◌∷◌, ℕ, zero, suc}
use Rattle.std.proofs.Math.Option.{Option, none, some}
use Rattle.answers.specs.Answers.{Answer, result, After}

-- what a call of `next` answers, and the walk that it leaves
abbrev pub Step : Type 0 → Type 0
Step W = After W (Option ℕ)

-- what k calls of `next` answer, each on the walk that the one before left
unfoldable pub answers : {W : Type 0} → (W → Step W) → ℕ → W → List (Answer (Option ℕ))
answers step zero w = []
answers step (suc k) w = (step w).answer ∷ answers step k (step w).left

-- k answers: the numbers of a list, one a call, then none for ever
unfoldable pub one_by_one : ℕ → List ℕ → List (Answer (Option ℕ))
one_by_one zero xs = []
one_by_one (suc k) [] = result none ∷ one_by_one k []
one_by_one (suc k) (x ∷ xs) = result (some x) ∷ one_by_one k xs
