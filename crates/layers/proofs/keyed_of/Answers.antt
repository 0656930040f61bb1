-- `layers::keyed_of` meets its contract.
-- Assumes nothing.
use Rattle.std.proofs.Common.{arith}
use Rattle.layers.proofs.FormulaLaws.{half, four_rounds}
use Rattle.layers.proofs.keyed_of.Goals as goal

pub new-half-requires : goal.new-half-requires
new-half-requires c = omega (arith, c.bits-h.ensures, half c.args.layer)

pub overflow_sub-result : goal.overflow_sub-result
overflow_sub-result c = omega (arith, c.rounds.ensures, four_rounds c.args.layer)

pub returns : goal.returns
returns c =
    rw (
      c.next_key.ensures,
      c.from-4.ensures,
      c.from-3.ensures,
      c.from-2.ensures,
      c.from.ensures,
      c.next_key-k3.ensures,
      c.next_key-k2.ensures,
      c.next_key-k1.ensures,
      c.new-half.ensures,
      c.size.ensures,
      c.rounds.ensures,
      c.bits-h.ensures,
      half c.args.layer,
    )
