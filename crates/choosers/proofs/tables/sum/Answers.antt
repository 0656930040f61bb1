-- `choosers::tables::sum` meets its contract.
-- Assumes nothing.
use mathlib.Core.Path.{◌∙◌}
use Rattle.std.proofs.Common.{rules, tests}
use Rattle.std.proofs.lemmas.Iterator.{YieldsList-from_slice, YieldsList-from_map}
use Rattle.std.proofs.lemmas.Iterator.Consumers.{YieldsList-at, sum_by_from_yields_List}
use Rattle.choosers.proofs.TableLaws.{sum_all}
use Rattle.choosers.proofs.tables.sum.Goals as goal

pub returns : goal.returns
returns c =
    sum_by_from_yields_List _ _ c.map.result _ c.sum.ensures.ran
    (YieldsList-from_map _ (λ b. b) (YieldsList-at c.map.ensures.source (YieldsList-from_slice c.args.bytes.now cc)) c.map.ensures.closure (λ x r q k. search (rules, tests)))
    ∙ sum_all c.args.bytes.now c.requires.small
