-- `fields::cuts::keep` meets its contract.
-- Assumes nothing.
use native.Mathlib.Omega.{arith}
use Rattle.fields.proofs.CutLaws.{kept_size, kept_written}
use Rattle.fields.proofs.cuts.keep.Goals as goal

pub returns-clause-size : goal.returns-clause-size
returns-clause-size c = kept_size c.args.line.now _ _ _ _ _ c.min-most.ensures c.min-held.ensures c.min-count.ensures

pub returns-clause-holds : goal.returns-clause-holds
returns-clause-holds c = kept_written _ _ _ _ _ _ c.min-most.ensures c.min-held.ensures c.min-count.ensures _ _ (omega arith) c.copy_from_slice.ensures.after
