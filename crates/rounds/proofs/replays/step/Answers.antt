-- `rounds::replays::step` meets its contract.
-- Assumes nothing.
use Rattle.rounds.specs.Histories.{call}
use Rattle.rounds.specs.InnerReplays.{step_of}
use Rattle.rounds.proofs.replays.step.Goals as goal

pub returns-in-Admit : goal.returns-in-Admit
unfolding step_of call
returns-in-Admit c = rw (c.in-Admit.is, c.of_exchange.ensures, ← c.admit.ensures)

pub returns-in-Join : goal.returns-in-Join
unfolding step_of call
returns-in-Join c = rw (c.in-Join.is, c.of_slot.ensures, ← c.join.ensures)

pub returns-in-Withdraw : goal.returns-in-Withdraw
unfolding step_of call
returns-in-Withdraw c = rw (c.in-Withdraw.is, c.of_nothing.ensures, ← c.withdraw.ensures)
