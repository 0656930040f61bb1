-- `choosers::tables::past_full` meets its contract.
-- Assumes nothing.
use Rattle.std.proofs.Common.{rules, tests, ◌≡◌, ◌+◌, ◌*◌, length}
use mathlib.Core.Path.{subst, ap, ◌∙◌}
use native.Mathlib.Omega.{arith}
use Rattle.std.specs.Iterator.Adapters.{take_while_source}
use Rattle.std.specs.Slice.Iter.{chunks_exact_size, chunks_exact_rest}
use Rattle.choosers.specs.InnerSlots.{Taken}
use Rattle.choosers.proofs.TableLaws.{blocks_taken}
use Rattle.choosers.proofs.tables.past_full.Goals as goal

pub returns-clause-taken : goal.returns-clause-taken
returns-clause-taken c =
    let t = c.args.bytes.now in
    let r = c.count.ensures.ran in
    let size : chunks_exact_size (take_while_source c.take_while-blocks.result) ≡ 32 = ap chunks_exact_size c.take_while-blocks.ensures.source ∙ c.chunks_exact.ensures.size in
    let rest : chunks_exact_rest (take_while_source c.take_while-blocks.result) ≡ t = ap chunks_exact_rest c.take_while-blocks.ensures.source ∙ c.chunks_exact.ensures.rest in
    let all : Taken t (0 + 32 * length r.0)
    = blocks_taken _ _ (λ x b q k. search (rules, tests)) t r.0 c.take_while-blocks.result _ 0 c.take_while-blocks.ensures.closure size rest (omega arith) (λ i h. absurd (omega arith)) r.1.1.1 in
    subst (Taken t) (omega (arith, r.2)) all
