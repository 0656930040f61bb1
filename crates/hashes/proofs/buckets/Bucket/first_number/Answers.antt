-- `hashes::buckets::Bucket::first_number` meets its contract.
-- Assumes nothing.
use native.Mathlib.Omega.{arith}
use Rattle.hashes.proofs.LoopLaws.{first_fits}
use Rattle.hashes.proofs.buckets.Bucket.first_number.Goals as goal

pub overflow_add-result : goal.overflow_add-result
overflow_add-result c = record { fits = omega (arith, first_fits c.args.d c.args.self.place (omega (arith, c.args.self.in_range))) }
