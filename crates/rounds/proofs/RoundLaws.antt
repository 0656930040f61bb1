-- What holds of a round after every list of calls, and what its ledger is then. Such a round is never refused 12, and an open
-- begins so.
-- Assumes nothing.
use mathlib.Core.Path.{◌≡◌, refl, sym, ap}
use mathlib.Core.Bool.{true}
use mathlib.Core.List.{List, []}
use Prim.Native.Nat.{ℕ}
use Rattle.std.proofs.Math.Path.{subst₂}
use Rattle.answers.specs.Answers.{result, map_answer, after, After}
use Rattle.orders.specs.Admissions as Admissions
use Rattle.orders.proofs.ReservoirLaws as List
use Rattle.choosers.specs.Slots.{actives}
use Rattle.choosers.specs.SlotCalls as Slots
use Rattle.choosers.proofs.SlotCallLaws.{new_fits}
use Rattle.rounds.specs.declared.round.Round.{Round}
use Rattle.rounds.specs.Rounds.{reservoir_of, map_of, round_of, State, fitting, open_call}
use Rattle.rounds.specs.Ledgers.{Ledger, ledger, first_ledger}
use Rattle.rounds.specs.Histories.{Opens}
use Rattle.answers.proofs.AnswerLaws.{not_said, said_same}
use Rattle.lists.proofs.Sets.{Same}

-- the record against its memory
pub record Kept (s : State) : Type 0 where
  pub list : Admissions.Kept (reservoir_of s.round) s.list
  pub table : Slots.fitting (map_of s.round) s.table ≡ true

-- the active slots, as the record and the table have them
abbrev pub actives_of : State → List ℕ
actives_of s = actives s.table s.round.total

-- the ledger of a record, whose set is A
abbrev pub shown : State → List ℕ → Ledger
shown s A = ledger s.round.master_key s.round.k s.round.n A s.round.total

-- "A is the active terminals, n the n reached."
pub record Shows (s : State) (g : Ledger) : Type 0 where
  pub numbers : shown s g.A ≡ g
  pub set : Same (actives_of s) g.A
  pub kept : Kept s

-- a kept round shows the ledger of its own record and table
pub shows_own : (s : State) → Kept s → Shows s (shown s (actives_of s))
shows_own s kept = record { numbers = refl; set = λ x. refl; kept = kept }

-- refusal 12 is not met
pub fits_kept : (s : State) → Kept s → fitting s ≡ true
unfolding fitting
fits_kept s kept = rw (List.fitting_kept (reservoir_of s.round) s.list kept.list, kept.table) refl

-- ---- an accepted open begins so

none_active : (t : List ℕ) → actives t 0 ≡ []
unfolding actives
none_active t = refl

-- the reservoir of a round just opened
pub open_list : (key k n : ℕ) (s : State) → Opens key k n s → Admissions.Opened key k n (reservoir_of s.round) s.list × (s.round.total ≡ 0)
unfolding open_call
open_list key k n s o =
    List.open_kept (λ a. after (map_answer (λ r. round_of r (Slots.map_of 0)) a.answer) a.left ≡ after (result s.round) s.list → Admissions.Opened key k n (reservoir_of s.round) s.list × (s.round.total ≡ 0)) k n key o.lent
    (λ w e. not_said w s.round (ap (λ (a : After (List ℕ) Round). a.answer) e))
    (λ r l q e. let is-round : round_of r (Slots.map_of 0) ≡ s.round = said_same (round_of r (Slots.map_of 0)) s.round (ap (λ (a : After (List ℕ) Round). a.answer) e) in
    let is-list : l ≡ s.list = ap (λ (a : After (List ℕ) Round). a.left) e in
    (subst₂ (Admissions.Opened key k n) (ap reservoir_of is-round) is-list q, sym (ap (λ (r : Round). r.total) is-round)))
    o.accepted

pub open_shows : (key k n : ℕ) (s : State) → Opens key k n s → Shows s (first_ledger key k n)
open_shows key k n s o =
    let q = open_list key k n s o in
    record {
      numbers = λ i. ledger (q.0.key_is i) (q.0.k_is i) (q.0.n_is i) [] (q.1 i);
      set = λ x. rw (q.1, none_active s.table) refl;
      kept = record { list = q.0.kept; table = new_fits (map_of s.round) s.table q.1 };
    }
