-- `choosers::choose_k::ConsistentChooseKHasher::test` meets its contract.
-- Assumes nothing.
use mathlib.Core.Path.{◌≡◌, sym, ◌∙◌}
use mathlib.Core.Bool.{true}
use Rattle.choosers.specs.ChooserCalls.{fitting}
use Rattle.choosers.proofs.ChooserCallLaws.{tests_unfit, tests_above, tests_pass}
use Rattle.choosers.proofs.choose_k.ConsistentChooseKHasher.test.Goals as goal
use Rattle.choosers.proofs.choose_k.ConsistentChooseKHasher.test.Goals.{Else-not-fits}

ok : (c : Else-not-fits) → fitting c.args.self c.args.list.now ≡ true
ok c = sym c.fits.ensures ∙ c.if-not-fits.false

pub returns-then-not-fits : goal.returns-then-not-fits
returns-then-not-fits c = tests_unfit _ _ (sym c.fits.ensures ∙ c.if-not-fits.true)

pub returns-then-self-gt-N_LIMIT : goal.returns-then-self-gt-N_LIMIT
returns-then-self-gt-N_LIMIT c = tests_above _ _ (ok (goal.at.returns-then-self-gt-N_LIMIT c).Else-not-fits) c.if-self-gt-N_LIMIT.true

pub returns : goal.returns
returns c = tests_pass _ _ (ok (goal.at.returns c).Else-not-fits) c.if-self-gt-N_LIMIT.false
