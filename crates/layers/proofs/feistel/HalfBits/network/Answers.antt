-- `layers::feistel::HalfBits::network` meets its contract.
-- Assumes nothing.
use Rattle.layers.proofs.RoundLaws.{start_within, rounds_within}
use Rattle.layers.proofs.feistel.HalfBits.network.Goals as goal

pub over-requires : goal.over-requires
over-requires c = rw (c.unrolled-t.ensures, c.start-s.ensures) (rounds_within _ _ _ (start_within _ _ _))

pub returns : goal.returns
returns c = rw (c.over.ensures, c.unrolled-t.ensures, c.start-s.ensures)
