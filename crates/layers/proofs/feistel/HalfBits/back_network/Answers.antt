-- `layers::feistel::HalfBits::back_network` meets its contract.
-- Assumes nothing.
use Rattle.layers.proofs.RoundLaws.{start_within}
use Rattle.layers.proofs.Inverse.{back_within}
use Rattle.layers.proofs.feistel.HalfBits.back_network.Goals as goal

pub over-requires : goal.over-requires
over-requires c = rw (c.back-t.ensures, c.start-s.ensures) (back_within _ _ _ _ (start_within _ _ _))

pub returns : goal.returns
returns c = rw (c.over.ensures, c.back-t.ensures, c.start-s.ensures)
