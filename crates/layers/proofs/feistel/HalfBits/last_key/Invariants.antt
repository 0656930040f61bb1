-- `layers::feistel::HalfBits::last_key` meets its contract.
-- Assumes nothing.
use Rattle.std.proofs.Common.{◌≡◌, ◌-◌}
use Rattle.layers.specs.Permutations.{last_key}
use Rattle.layers.proofs.feistel.HalfBits.last_key.Given as goal

abbrev pub invariant-loop : goal.invariant-loop
invariant-loop l =
    let h = l.self.bits in
    last_key h (l.n - l.counter) l.k ≡ last_key h l.n l.key
