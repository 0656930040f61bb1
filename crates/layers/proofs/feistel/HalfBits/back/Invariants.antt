-- `layers::feistel::HalfBits::back` meets its contract.
-- Assumes nothing.
use Rattle.std.proofs.Common.{◌≡◌, ◌-◌}
use Rattle.layers.specs.Permutations.{last_key, back}
use Rattle.layers.proofs.feistel.HalfBits.back.Given as goal

abbrev pub invariant-loop : goal.invariant-loop
invariant-loop l =
    let h = l.self.bits in
    (l.t.key ≡ last_key h (l.n - l.counter) l.key) × (back h (l.n - l.counter) l.key l.t ≡ back h l.n l.key l.fn.s)
