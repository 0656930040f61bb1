-- `choosers::lookups::WithOwnPlaces::own` meets its contract.
-- Assumes nothing.
use Rattle.choosers.proofs.LookupLaws.{own_is}
use Rattle.choosers.proofs.lookups.WithOwnHolding.own.Goals as goal

pub returns-then-v-m : goal.returns-then-v-m
returns-then-v-m c = let r = c.requires in own_is _ _ _ _ r.0 r.1 r.3 c.if-v-m.true
