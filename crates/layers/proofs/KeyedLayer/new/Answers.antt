-- `layers::KeyedLayer::new` meets its contract.
-- Assumes nothing.
use Rattle.std.proofs.Common.{ap, arith, le-leb}
use borrow.Author.Tests.{lt-leb}
use Rattle.answers.specs.Answers.{result}
use Rattle.layers.specs.KeyedLayers.{keyed}
use Rattle.layers.proofs.KeyedLayer.new.Goals as goal

pub returns-then-layer-gt-LAYER_LIMIT : goal.returns-then-layer-gt-LAYER_LIMIT
unfolding keyed
returns-then-layer-gt-LAYER_LIMIT c = simp (lt-leb c.args.layer 14 (omega arith))

pub returns : goal.returns
unfolding keyed
returns c = simp (le-leb c.args.layer 14 (omega arith)) (ap result c.keyed_of.ensures)
