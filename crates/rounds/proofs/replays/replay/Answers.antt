-- `rounds::replays::replay` meets its contract.
-- Assumes nothing.
use mathlib.Core.Bool.{true}
use mathlib.Core.Path.{◌≡◌, refl, sym, ◌∙◌}
use mathlib.Core.List.{List}
use Prim.Native.Nat.{ℕ}
use lib.ListN.{length}
use Rattle.lists.specs.Lists.{every}
use Rattle.std.specs.Prelude.{Result, Ok, Err}
use Rattle.std.proofs.lemmas.Result.{err_from_is_err_and}
use Rattle.answers.specs.declared.Refusal.{Refusal}
use Rattle.answers.specs.declared.Refusal.TheVariants.{Misfit}
use Rattle.answers.specs.Refusals.{answer_of}
use Rattle.answers.specs.Answers.{After, after}
use Rattle.rounds.specs.Replays.{replay_call, ReplayScratch, Replayed, ReplayMemory, replay_memory}
use Rattle.rounds.specs.Calls.{known}
use Rattle.rounds.proofs.ReplayTurns.{replay_unknown, replay_short, replay_refused, replay_run}
use Rattle.rounds.proofs.ReplayLaws.{replay_ledger}
use Rattle.rounds.proofs.replays.replay.Goals as goal
use Rattle.rounds.proofs.replays.replay.Goals.{Else-not-all_known, Start}

-- what the function is to leave
abbrev due : Start → After ReplayMemory (Unit {0})
due s = replay_call s.args.key s.args.k s.args.n s.args.calls.now s.args.list.now s.args.table.now s.args.answers.now s.args.locations.now s.args.terminals.now (length s.args.scratch.now)

-- the three clauses: the second follows from the first
clauses : (s : Start) (o : Result (Unit {0}) Refusal) (l t ws ls ts scratch : List ℕ) → after (answer_of o) (replay_memory l t ws ls ts) ≡ due s → ReplayScratch o (length s.args.calls.now) ws s.args.scratch.now scratch
    → (after (answer_of o) (replay_memory l t ws ls ts) ≡ due s)
    × (Replayed o s.args.key s.args.k s.args.n s.args.calls.now (length s.args.table.now) (length s.args.scratch.now) ws ls ts
    × ReplayScratch o (length s.args.calls.now) ws s.args.scratch.now scratch)
clauses s o l t ws ls ts scratch e spared = (e, (replay_ledger _ _ _ _ s.args.list.now s.args.table.now s.args.answers.now s.args.locations.now s.args.terminals.now _ o l t ws ls ts e, spared))

all : (c : Else-not-all_known) → every known c.args.calls.now ≡ true
all c = sym c.all_known.ensures ∙ c.if-not-all_known.false

pub returns-then-not-all_known : goal.returns-then-not-all_known
returns-then-not-all_known c =
    let both = clauses (goal.at.returns-then-not-all_known c).Start (Err Misfit) _ _ _ _ _ _
    (replay_unknown _ _ _ _ _ _ _ _ _ _ (sym c.all_known.ensures ∙ c.if-not-all_known.true))
    refl in
    record { answer = both.0; replayed = both.1.0; replay_scratch = both.1.1 }

pub returns-then-answers-calls : goal.returns-then-answers-calls
returns-then-answers-calls c =
    let both = clauses (goal.at.returns-then-answers-calls c).Start (Err _) _ _ _ _ _ _
    (replay_short _ _ _ _ _ _ _ _ _ _ (all (goal.at.returns-then-answers-calls c).Else-not-all_known) c.if-answers-calls.true _ c.short_refusal.ensures)
    refl in
    record { answer = both.0; replayed = both.1.0; replay_scratch = both.1.1 }

pub returns-in_err-r : goal.returns-in_err-r
returns-in_err-r c =
    let p = err_from_is_err_and c.from_residual.result c.from_residual.ensures.1 in
    let a = c.args in
    let both = clauses (goal.at.returns-in_err-r c).Start c.from_residual.result c.«open».new.list a.table.now a.answers.now a.locations.now a.terminals.now a.scratch.now
    (rw (p.1, p.2) (replay_refused _ _ _ _ _ _ _ _ _ _ (all (goal.at.returns-in_err-r c).Else-not-all_known) c.if-answers-calls.false c.«open».result _ c.«open».ensures _ c.in_err-r.was))
    (rw p.1 refl) in
    record { answer = both.0; replayed = both.1.0; replay_scratch = both.1.1 }

pub returns : goal.returns
returns c =
    let both = clauses (goal.at.returns c).Start (Ok tt) _ _ _ _ _ c.run.new.scratch
    (replay_run _ _ _ _ _ _ _ _ _ _ (all (goal.at.returns c).Else-not-all_known) c.if-answers-calls.false c.«open».result _ c.«open».ensures _ _ _ _ _ _ c.in_ok-r.was c.run.ensures.answer)
    c.run.ensures.scratch_run in
    record { answer = both.0; replayed = both.1.0; replay_scratch = both.1.1 }
