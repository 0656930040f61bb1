-- The program's lists are long enough for every plan: what it prints for `plan` is the ledger's.
-- Assumes nothing.
use mathlib.Core.Path.{◌≡◌, refl}
use mathlib.Core.List.{List}
use Prim.Native.Nat.{ℕ}
use Rattle.std.specs.Prelude.{Some}
use Rattle.choosers.specs.Slots.{actives}
use Rattle.rounds.specs.declared.round.Round.{Round}
use Rattle.rounds.specs.Ledgers.{plan_from}
use Rattle.lines.specs.Commands.{plan_word}
use Rattle.lines.specs.Replies.{planned}
use Rattle.lines.specs.Sessions.{respond, after_lines}
use Rattle.lines.specs.declared.sessions.Memory.{Memory}
use Rattle.lines.proofs.LedgerLaws.{plan_ledger_lent, program_roomy}
use Rattle.stocktake.specs.Pieces.{begun, Own}
use Rattle.answers.specs.Answers.{map_answer}

-- After any lines, where a round is open, a line `plan` is answered with what key, k, the n reached and the active terminals define.
pub program_plans : (m : Memory) → Own m → (ls : List (List ℕ)) (r : Round) → (after_lines (begun m) ls).site.current ≡ Some r
    → (respond (after_lines (begun m) ls) plan_word).answer ≡ map_answer planned (plan_from r.master_key r.k r.n (actives (after_lines (begun m) ls).site.table r.total))
program_plans m own ls r e = plan_ledger_lent (begun m) refl (program_roomy (begun m) own.list own.table own.locations own.terminals own.scratch) ls r e
