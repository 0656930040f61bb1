-- `rounds::sheets::Sampled::new` meets its contract.
-- Assumes nothing.
use mathlib.Core.Path.{ap}
use mathlib.Core.List.{List}
use Prim.Native.Nat.{ℕ}
use Rattle.lists.specs.Lists.{keep}
use Rattle.orders.specs.Reservoirs.{counts}
use Rattle.orders.specs.ReservoirCalls.{sample}
use Rattle.rounds.proofs.sheets.Sampled.new.Goals as goal

pub returns : goal.returns
unfolding sample
returns c = ap (λ (xs : List ℕ). keep (counts c.args.r.n) xs) c.iter.ensures.rest
