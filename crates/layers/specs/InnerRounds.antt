-- What the promises of private functions on halves say. No public promise cites this file.
-- Assumes nothing.
use Rattle.std.specs.Prelude.{ℕ, ◌^◌, ◌<◌}
use Rattle.layers.specs.declared.feistel.Halves.{Halves}

-- both halves have h bits
pub record Within (h : ℕ) (s : Halves) : Type 0 where
  pub left : s.l < 2 ^ h
  pub right : s.r < 2 ^ h
