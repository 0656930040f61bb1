-- Demand 3: the theorem.
-- Assumes nothing.
use mathlib.Core.Path.{sym, ap, ◌∙◌}
use Rattle.choosers.proofs.SlotLaws.{has_actives}
use Rattle.rounds.specs.Rounds.{State}
use Rattle.rounds.specs.Ledgers.{Ledger, first_ledger}
use Rattle.rounds.specs.Demand3.{ledger_of, Shown, Demand3}
use Rattle.rounds.proofs.RoundLaws.{Shows, open_shows}
use Rattle.rounds.proofs.MadeLaws.{all_made_shows, reached_shows}
use Rattle.rounds.proofs.MoveLaws.{plan_shown, same_plan, eleven_none, none_eleven, withdraw_moves, join_moves, admit_samples, admit_moves}

pub shown_is : (s : State) (g : Ledger) → Shows s g → Shown s g
shown_is s g h = record {
  key = ap (λ (z : Ledger). z.key) h.numbers;
  k = ap (λ (z : Ledger). z.k) h.numbers;
  n = ap (λ (z : Ledger). z.n) h.numbers;
  active = λ x. sym (has_actives s.table s.round.total x) ∙ h.set x;
}

-- THE THEOREM
pub demand_3 : Demand3
demand_3 = record {
  planned = λ s h p is. plan_shown s (ledger_of h) (reached_shows s h) p is;
  shown = λ s h. shown_is s (ledger_of h) (reached_shows s h);
  eleven = λ s h p is. (eleven_none s h p is, none_eleven s h p is);
  same_plan = same_plan;
  answered = λ s h. (all_made_shows (first_ledger h.key h.k h.n) (open_shows h.key h.k h.n h.start h.opens) h.made).0;
  withdrawn = withdraw_moves;
  joined = join_moves;
  sampled = admit_samples;
  kept = admit_moves;
}
