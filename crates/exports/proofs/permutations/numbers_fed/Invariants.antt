-- `exports::permutations::numbers_fed` meets its contract.
-- Assumes nothing.
use Rattle.exports.proofs.OrderFedLaws.{Feeding}
use Rattle.exports.proofs.permutations.numbers_fed.Given as goal

abbrev pub invariant-loop : goal.invariant-loop
invariant-loop l = Feeding l.key l.n l.count l.counter l.fed l.walk.order
