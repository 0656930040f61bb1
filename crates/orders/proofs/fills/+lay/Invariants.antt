-- `orders::fills::lay` ends: each call is for the order one layer lower.
-- Assumes nothing.
use Rattle.orders.proofs.fills.+lay.Given as goal

abbrev pub decreases-lay : goal.decreases-lay
decreases-lay l = l.m
