-- A permutation of 0..N.
-- Assumes nothing.
use Rattle.std.specs.Prelude.{◌≡◌, ℕ, ◌<◌}

-- f maps 0..N to itself, and g undoes it, on both sides
pub record Permutation (N : ℕ) (f g : ℕ → ℕ) : Type 0 where
  pub stays : (x : ℕ) → x < N → f x < N
  pub back_stays : (y : ℕ) → y < N → g y < N
  pub undo : (x : ℕ) → x < N → g (f x) ≡ x
  pub redo : (y : ℕ) → y < N → f (g y) ≡ y
