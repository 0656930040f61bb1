-- `layers::feistel::HalfBits::rounds` meets its contract.
-- Assumes nothing.
use Rattle.std.proofs.Common.{◌≡◌, ◌-◌}
use Rattle.layers.specs.Layer.{rounds}
use Rattle.layers.proofs.feistel.HalfBits.rounds.Given as goal

abbrev pub invariant-loop : goal.invariant-loop
invariant-loop l =
    let h = l.self.bits in
    rounds h (l.n - l.counter) l.t ≡ rounds h l.n l.fn.s
