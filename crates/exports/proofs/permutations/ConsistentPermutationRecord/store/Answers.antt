-- `exports::permutations::ConsistentPermutationRecord::store` meets its contract.
-- Assumes nothing.
use Rattle.std.proofs.Common.{◌∙◌, arith}
use lib.ListN.{length-take, length-drop, length-set}
use Rattle.exports.proofs.OrderCrossLaws.{order_stored}
use Rattle.exports.proofs.permutations.ConsistentPermutationRecord.store.Goals as goal

pub returns : goal.returns
returns c =
    let h = c.requires in
    let copied = c.copy_from_slice.ensures in
    rw c.parted-low.ensures (order_stored c.args.self c.args.ws.now c.copy_from_slice.new.self h copied.after (copied.len ∙ simp (length-take, length-drop, length-set) (omega arith)))
