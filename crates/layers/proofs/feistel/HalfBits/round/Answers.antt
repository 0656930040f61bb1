-- `layers::feistel::HalfBits::round` meets its contract.
-- Assumes nothing.
use Rattle.layers.specs.Layer.{round}
use Rattle.layers.proofs.RoundLaws.{new_round}
use Rattle.layers.proofs.feistel.HalfBits.round.Goals as goal

pub returns : goal.returns
unfolding round
returns c = rw (c.next_key.ensures, c.turned.ensures, c.from.ensures, new_round c.args.self.bits)
