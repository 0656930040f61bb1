-- The plan that the program prints is the ledger's: whatever lines came before, from no round, a plan line is answered with what key,
-- k, the n reached and the active terminals alone define; with memory like the program's, whatever the round.
-- Assumes nothing.
use mathlib.Core.Path.{◌≡◌, refl, sym, ap, ◌∙◌, subst}
use mathlib.Core.List.{List, [], ◌∷◌}
use Prim.Native.Nat.{ℕ, ◌≤◌}
use native.Mathlib.Omega.{arith}
use lib.ListN.{length}
use Rattle.answers.specs.Answers.{Answer, refusal, result, after, map_answer}
use Rattle.orders.proofs.ReservoirLaws.{fitting_kept}
use Rattle.orders.proofs.CheckLaws.{fits_parts, used_some}
use Rattle.orders.proofs.MemoryLaws.{open_length}
use Rattle.choosers.specs.Slots.{actives}
use Rattle.rounds.specs.declared.round.Round.{Round}
use Rattle.rounds.specs.Rounds.{reservoir_of, State, state, open_call}
use Rattle.rounds.specs.Ledgers.{admit, join, withdraw, plan_from}
use Rattle.rounds.specs.Histories.{made_none, call}
use Rattle.rounds.specs.Demand3.{Enough, Reached}
use Rattle.rounds.proofs.RoundLaws.{Kept}
use Rattle.rounds.proofs.StepLaws.{step_length, step_bytes}
use Rattle.rounds.proofs.PlanLaws.{own_plan}
use Rattle.rounds.proofs.ReplayLaws.{plan_lengths}
use Rattle.rounds.proofs.MadeLaws.{reached_kept, reached_call}
use Rattle.lines.specs.Commands.{command_of, plan_word, word_alone}
use Rattle.lines.specs.Replies as Replies
use Rattle.lines.specs.Sessions.{Site, site, replaced, open_line, admit_line, join_line, withdraw_line, plan_line, World, world, answered, respond, after_lines}
use Rattle.lines.specs.declared.commands.Command.{Command}
use Rattle.lines.specs.declared.commands.Command.TheVariants as command
use Rattle.lines.specs.Plans.{Reaches, SiteReached, Roomy}
use Rattle.std.specs.Prelude.{Option, Some, None}

-- ---- every round that lines lead to is reached by calls from an accepted open

open_reaches : (key k n : ℕ) (s : Site) → SiteReached s → (o : Answer Round) (l : List ℕ) → open_call key k n s.list ≡ after o l → SiteReached (replaced s o l).left
open_reaches key k n s h (refusal w) l e = h
open_reaches key k n s h (result r) l e =
    record {
      key = key;
      k = k;
      n = n;
      start = state r l s.table;
      opens = record { lent = s.list; accepted = e };
      calls = [];
      answers = [];
      made = made_none (state r l s.table);
    }

module _ (l t : List ℕ) where
  admit_reaches : (c : Option Round) → Reaches c l t → SiteReached (admit_line (site c l t)).left
  unfolding admit_line call
  admit_reaches None h = tt
  admit_reaches (Some r) h = reached_call (state r l t) h admit

  join_reaches : (c : Option Round) → Reaches c l t → SiteReached (join_line (site c l t)).left
  unfolding join_line call
  join_reaches None h = tt
  join_reaches (Some r) h = reached_call (state r l t) h join

  withdraw_reaches : (x : ℕ) (c : Option Round) → Reaches c l t → SiteReached (withdraw_line x (site c l t)).left
  unfolding withdraw_line call
  withdraw_reaches x None h = tt
  withdraw_reaches x (Some r) h = reached_call (state r l t) h (withdraw x)

plan_site : (w : World) (c : Option Round) → w.site.current ≡ c → (plan_line w).left.site ≡ w.site
unfolding plan_line
plan_site w None e = rw e
plan_site w (Some r) e = rw e

answered_reaches : (w : World) (c : Answer Command) → SiteReached w.site → SiteReached (answered w c).left.site
unfolding answered open_line
answered_reaches w (result (command.Open key k n)) h = open_reaches key k n w.site h (open_call key k n w.site.list).answer (open_call key k n w.site.list).left refl
answered_reaches w (result command.Admit) h = admit_reaches w.site.list w.site.table w.site.current h
answered_reaches w (result command.Join) h = join_reaches w.site.list w.site.table w.site.current h
answered_reaches w (result (command.Withdraw x)) h = withdraw_reaches w.site.list w.site.table x w.site.current h
answered_reaches w (result command.Plan) h = subst SiteReached (sym (plan_site w w.site.current refl)) h
answered_reaches w (refusal c) h = h

pub lines_reach : (ls : List (List ℕ)) (w : World) → SiteReached w.site → SiteReached (after_lines w ls).site
unfolding respond
lines_reach [] w h = h
lines_reach (l ∷ ls) w h = lines_reach ls (respond w l).left (answered_reaches w (command_of l) h)

-- ---- the plan

-- the line `plan` where a round stands that is reached so, with lists and scratch long enough
plan_by_lem : (w : World) (r : Round) → w.site.current ≡ Some r → Reached (state r w.site.list w.site.table)
    → Enough r.k (length w.site.table) w.locations w.terminals w.places
    → (respond w plan_word).answer ≡ map_answer Replies.planned (plan_from r.master_key r.k r.n (actives w.site.table r.total))
unfolding respond command_of word_alone answered plan_line
plan_by_lem w r e h enough =
    let s = state r w.site.list w.site.table in
    rw e (ap (map_answer Replies.planned) (own_plan s (reached_kept s h) w.locations w.terminals w.places enough))

-- from no round, after any lines: a round that is open then is reached so
begins : (w : World) → w.site.current ≡ None → SiteReached w.site
begins w none = subst (λ (c : Option Round). Reaches c w.site.list w.site.table) (sym none) tt

reached_after : (w : World) → w.site.current ≡ None → (ls : List (List ℕ)) (r : Round) → (after_lines w ls).site.current ≡ Some r
    → Reached (state r (after_lines w ls).site.list (after_lines w ls).site.table)
reached_after w none ls r e =
    let v = after_lines w ls in
    subst (λ (c : Option Round). Reaches c v.site.list v.site.table) e (lines_reach ls w (begins w none))

-- THE THEOREM. From no round, after any lines: where a round is open, `plan` prints the ledger's plan.
pub plan_ledger : (w : World) → w.site.current ≡ None → (ls : List (List ℕ)) (r : Round) → (after_lines w ls).site.current ≡ Some r
    → Enough r.k (length (after_lines w ls).site.table) (after_lines w ls).locations (after_lines w ls).terminals (after_lines w ls).places
    → (respond (after_lines w ls) plan_word).answer
    ≡ map_answer Replies.planned (plan_from r.master_key r.k r.n (actives (after_lines w ls).site.table r.total))
plan_ledger w none ls r e enough = plan_by_lem (after_lines w ls) r e (reached_after w none ls r e) enough

-- ---- memory like the program's: lines keep all lengths, so that what is long enough once is so after them

-- how long each part of the memory is
record Lengths : Type 0 where
  list : ℕ
  table : ℕ
  locations : ℕ
  terminals : ℕ
  places : ℕ

abbrev lengths_by : ℕ → ℕ → ℕ → ℕ → ℕ → Lengths
lengths_by l t ls ts places = record { list = l; table = t; locations = ls; terminals = ts; places = places }

abbrev lengths : World → Lengths
lengths w = lengths_by (length w.site.list) (length w.site.table) (length w.locations) (length w.terminals) w.places

-- the list and the table of two sites have the same lengths
abbrev AsLong : Site → Site → Type 0
AsLong s s' = (length s.list ≡ length s'.list) × (length s.table ≡ length s'.table)

-- a call's line leaves the plan's lists
site_lengths : (w : World) (s : Site) → AsLong s w.site → lengths (world s w.locations w.terminals w.places) ≡ lengths w
site_lengths w s e = λ i. lengths_by (e.0 i) (e.1 i) (length w.locations) (length w.terminals) w.places

replaced_lengths : (s : Site) (o : Answer Round) (l : List ℕ) → length l ≡ length s.list → AsLong (replaced s o l).left s
replaced_lengths s (refusal w) l e = (refl, refl)
replaced_lengths s (result r) l e = (e, refl)

open_lengths : (key k n : ℕ) (s : Site) → AsLong (open_line key k n s).left s
unfolding open_line open_call
open_lengths key k n s = replaced_lengths s (open_call key k n s.list).answer (open_call key k n s.list).left (open_length k n key s.list)

module _ (l t : List ℕ) where
  admit_lengths : (c : Option Round) → AsLong (admit_line (site c l t)).left (site c l t)
  unfolding admit_line call
  admit_lengths None = (refl, refl)
  admit_lengths (Some r) = (step_length (state r l t) admit, step_bytes (state r l t) admit)

  join_lengths : (c : Option Round) → AsLong (join_line (site c l t)).left (site c l t)
  unfolding join_line call
  join_lengths None = (refl, refl)
  join_lengths (Some r) = (step_length (state r l t) join, step_bytes (state r l t) join)

  withdraw_lengths : (x : ℕ) (c : Option Round) → AsLong (withdraw_line x (site c l t)).left (site c l t)
  unfolding withdraw_line call
  withdraw_lengths x None = (refl, refl)
  withdraw_lengths x (Some r) = (step_length (state r l t) (withdraw x), step_bytes (state r l t) (withdraw x))

plan_line_lengths : (w : World) (c : Option Round) → w.site.current ≡ c → Reaches c w.site.list w.site.table → lengths (plan_line w).left ≡ lengths w
unfolding plan_line
plan_line_lengths w None e h = rw e
plan_line_lengths w (Some r) e h =
    let s = state r w.site.list w.site.table in
    let p = plan_lengths s (reached_kept s h) w.locations w.terminals w.places in
    rw e (λ i. lengths_by (length w.site.list) (length w.site.table) (p.0 i) (p.1 i) w.places)

answered_lengths : (w : World) (c : Answer Command) → SiteReached w.site → lengths (answered w c).left ≡ lengths w
unfolding answered
answered_lengths w (result (command.Open key k n)) h = site_lengths w (open_line key k n w.site).left (open_lengths key k n w.site)
answered_lengths w (result command.Admit) h = site_lengths w (admit_line w.site).left (admit_lengths w.site.list w.site.table w.site.current)
answered_lengths w (result command.Join) h = site_lengths w (join_line w.site).left (join_lengths w.site.list w.site.table w.site.current)
answered_lengths w (result (command.Withdraw x)) h = site_lengths w (withdraw_line x w.site).left (withdraw_lengths w.site.list w.site.table x w.site.current)
answered_lengths w (result command.Plan) h = plan_line_lengths w w.site.current refl h
answered_lengths w (refusal c) h = refl

lines_lengths : (ls : List (List ℕ)) (w : World) → SiteReached w.site → lengths (after_lines w ls) ≡ lengths w
unfolding respond
lines_lengths [] w h = refl
lines_lengths (l ∷ ls) w h = lines_lengths ls (respond w l).left (answered_reaches w (command_of l) h) ∙ answered_lengths w (command_of l) h

-- a round so reached has its k numbers in the list
k_within : (s : State) → Kept s → s.round.k ≤ length s.list
k_within s kept =
    let r = reservoir_of s.round in
    let f = fits_parts r s.list (fitting_kept r s.list kept.list) in
    omega (arith, used_some r s.list f, f.shape.used_le)

roomy_enough : (v : World) (r : Round) → Kept (state r v.site.list v.site.table) → Roomy v
    → Enough r.k (length v.site.table) v.locations v.terminals v.places
roomy_enough v r kept room =
    let k = k_within (state r v.site.list v.site.table) kept in
    record { locations = omega (arith, k, room.locations); terminals = omega (arith, k, room.terminals); scratch = omega (arith, room.scratch) }

roomy_same : (w v : World) → lengths v ≡ lengths w → Roomy w → Roomy v
roomy_same w v e room =
    let l : length v.site.list ≡ length w.site.list = ap (λ (x : Lengths). x.list) e in
    let t : length v.site.table ≡ length w.site.table = ap (λ (x : Lengths). x.table) e in
    let ls : length v.locations ≡ length w.locations = ap (λ (x : Lengths). x.locations) e in
    let ts : length v.terminals ≡ length w.terminals = ap (λ (x : Lengths). x.terminals) e in
    let p : v.places ≡ w.places = ap (λ (x : Lengths). x.places) e in
    record { locations = omega (arith, room.locations); terminals = omega (arith, room.terminals); scratch = omega (arith, room.scratch) }

-- With such memory nothing is asked of the round: from no round, after any lines, `plan` prints the ledger's plan.
pub plan_ledger_lent : (w : World) → w.site.current ≡ None → Roomy w → (ls : List (List ℕ)) (r : Round) → (after_lines w ls).site.current ≡ Some r
    → (respond (after_lines w ls) plan_word).answer
    ≡ map_answer Replies.planned (plan_from r.master_key r.k r.n (actives (after_lines w ls).site.table r.total))
plan_ledger_lent w none room ls r e =
    let v = after_lines w ls in
    let kept : Kept (state r v.site.list v.site.table) = reached_kept (state r v.site.list v.site.table) (reached_after w none ls r e) in
    plan_ledger w none ls r e (roomy_enough v r kept (roomy_same w v (lines_lengths ls w (begins w none)) room))

-- The program's is such memory: 8,192 places for the list and for each of the plan's two, 512 bytes of table, 512 places of scratch.
pub program_roomy : (w : World) → length w.site.list ≡ 8192 → length w.site.table ≡ 512 → length w.locations ≡ 8192 → length w.terminals ≡ 8192 → w.places ≡ 512
    → Roomy w
program_roomy w l t ls ts p = record { locations = omega arith; terminals = omega arith; scratch = omega arith }
