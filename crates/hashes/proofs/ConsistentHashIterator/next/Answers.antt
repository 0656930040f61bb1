-- `hashes::ConsistentHashIterator::next` meets its contract.
-- Assumes nothing.
use Rattle.std.proofs.Common.{sym, ap, arith}
use Rattle.hashes.specs.Walks.{go_on_above, rise}
use Rattle.hashes.proofs.NextLaws.{from_lt}
use Rattle.hashes.proofs.ConsistentHashIterator.next.Goals as goal

pub returns-in_err-x : goal.returns-in_err-x
unfolding rise
returns-in_err-x c = rw c.from_residual.ensures (ap (go_on_above c.args.self.now) (rw c.in_err-x.was at c.smallest_from.ensures))

pub overflow_add-self : goal.overflow_add-self
overflow_add-self c =
    let w = c.args.self.now in
    record { fits = omega (arith, from_lt w.state w.low c.in_ok-x.x (sym (rw c.in_ok-x.was at c.smallest_from.ensures))) }

pub returns : goal.returns
unfolding rise
returns c = ap (go_on_above c.args.self.now) (rw c.in_ok-x.was at c.smallest_from.ensures)
