-- `orders::counters::stop` ends: each call is for the layer below.
-- Assumes nothing.
use Rattle.orders.proofs.counters.+stop.Given as goal

abbrev pub decreases-stop : goal.decreases-stop
decreases-stop l = l.j.number
