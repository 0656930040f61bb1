-- `layers::feistel::HalfBits::undo` meets its contract.
-- Assumes nothing.
use Rattle.layers.specs.Permutations.{undo}
use Rattle.layers.proofs.RoundLaws.{new_round}
use Rattle.layers.proofs.feistel.HalfBits.undo.Goals as goal

pub returns : goal.returns
unfolding undo
returns c = rw (c.turned.ensures, c.from.ensures, c.prev_key-key.ensures, new_round c.args.self.bits)
