-- What holds of every public call that may be refused. Demand 1: "The answer to each public call, for every input, is a result or one of
-- document 01's twelve refusals. A refusal returns its number and changes no lent list, table or record."
-- Assumes nothing.
use Rattle.std.specs.Prelude.{◌≡◌, true, List, ℕ}
use Rattle.answers.specs.Answers.{Answer, refusal, result}
use Rattle.lists.specs.Lists.{has}

-- Of a call that said t and is lent nothing to write: a refusal is one of its numbers ws.
abbrev pub Among : {A : Type 0} → List ℕ → Answer A → Type 0
Among ws (refusal w) = has w ws ≡ true
Among ws (result x) = Unit {0}

-- Of a call that said t and may write what it was lent, which stood as `before` and stands as `now`: a refusal is one of its numbers ws,
-- and all that was lent is as it was.
abbrev pub Spares : {A M : Type 0} → List ℕ → Answer A → M → M → Type 0
Spares ws (refusal w) before now = (has w ws ≡ true) × (now ≡ before)
Spares ws (result x) before now = Unit {0}
