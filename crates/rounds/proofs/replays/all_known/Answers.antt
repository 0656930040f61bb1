-- `rounds::replays::all_known` meets its contract.
-- Assumes nothing.
use Rattle.std.proofs.Common.{rules, ◌∙◌}
use Rattle.std.proofs.lemmas.Iterator.{YieldsList-from_slice}
use Rattle.std.proofs.lemmas.Iterator.Search.{all_from_yields_List}
use Rattle.rounds.specs.Calls.{known}
use Rattle.rounds.proofs.CallLaws.{known_all, reads_is}
use Rattle.rounds.proofs.replays.all_known.Goals as goal

pub returns : goal.returns
returns c = all_from_yields_List known _ _ _ c.all.ensures.ran (YieldsList-from_slice c.args.calls.now c.iter.ensures.rest) (λ x b q k. (search rules, search (rules, reads_is))) ∙ known_all c.args.calls.now
