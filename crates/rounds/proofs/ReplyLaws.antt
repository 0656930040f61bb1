-- What a call says to a round reached goes by its ledger and the two lengths; and what its list holds is what an open at its n lists.
-- Assumes nothing.
use mathlib.Core.Path.{◌≡◌, refl, sym, ap, subst, ◌∙◌}
use mathlib.Core.Bool.{Bool, true, false, ◌||◌}
use mathlib.Core.Logic.{⊎_elim}
use mathlib.Core.List.{List, []}
use mathlib.Core.Option.{Option, none, some}
use Prim.Native.Nat.{ℕ, suc, ◌≤◌, ◌<◌, min}
use native.Mathlib.Numerals.{add-one}
use borrow.Author.Tests.{lt-ltb, le-ltb, le-leb, lt-leb}
use lib.ListN.{length}
use Rattle.std.proofs.Math.Path.{subst₂}
use Rattle.answers.specs.Answers.{Answer, refusal, result, map_answer, is_refusal, After, refused}
use Rattle.lists.specs.Lists.{has}
use Rattle.lists.proofs.Tests.{by_test, by_below, by_cond}
use Rattle.orders.specs.declared.consistent_reservoir.ConsistentReservoir.{ConsistentReservoir}
use Rattle.orders.specs.Reservoirs.{opening}
use Rattle.orders.specs.ReservoirCalls as Reservoir
use Rattle.orders.proofs.AnewLaws.{Anew, AdmitAnew, finds_short, finds_none, brings_in, admit_anew, open_anew}
use Rattle.orders.specs.Admissions.{Admits}
use Rattle.orders.specs.ReservoirCalls.{ReservoirState}
use Rattle.choosers.specs.SlotCalls as Slots
use Rattle.rounds.specs.Rounds.{State, reservoir_of, fitting, by_reservoir, admit_call, join_call, withdraw_call}
use Rattle.rounds.specs.Ledgers.{Call, admit, join, withdraw, Ledger, first_ledger, due_in, free_slot, exchanged, answer, fed}
use Rattle.rounds.specs.Histories.{Opens, AllMade, made_none, made_next, valued, call}
use Rattle.rounds.specs.Demand3.{Reached}
use Rattle.rounds.specs.Outcomes.{too_short, reply}
use Rattle.rounds.specs.Fleets.{is_none, said_none}
use Rattle.rounds.proofs.RoundLaws.{Kept, actives_of, shown, Shows, fits_kept, open_list, open_shows}
use Rattle.rounds.proofs.StepLaws.{Refuses, Takes, outcome, through}
use Rattle.rounds.proofs.MadeLaws.{Counts, as_call, as_none, made_counts, made_step}

-- the list as an open has it; b: an admit said none
abbrev pub ListAnew : State → Bool → Type 0
ListAnew s b = Anew (reservoir_of s.round) s.list b

module _ {r : ConsistentReservoir} {l : List ℕ} where
  or_none : (b c : Bool) → c ≡ false → Anew r l b → Anew r l (b || c)
  or_none true c e h = h
  or_none false c e h = subst (Anew r l) (sym e) h

  or_said : (b : Bool) → Anew r l true → Anew r l (b || true)
  or_said true h = h
  or_said false h = h

-- ---- an admit

module _ (s : State) (A : List ℕ) (kept : Kept s) (b : Bool) (now : ListAnew s b) where
  abbrev g : Ledger
  g = shown s A

  abbrev a : After ReservoirState (Option (ℕ × ℕ))
  a = Reservoir.admit_call (reservoir_of s.round) s.list

  -- what it says, and what its list is after it
  abbrev AdmitDone : After State (List ℕ) → Type 0
  AdmitDone z = (z.answer ≡ reply g (length s.list) (length s.table) admit) × ListAnew z.left (b || is_none admit z.answer)

  abbrev Part : After ReservoirState (Option (ℕ × ℕ)) → Type 0
  Part z = AdmitDone (valued exchanged (by_reservoir s z))

  -- the reply where v is due
  module _ (v : ℕ) (d : due_in g ≡ some v) where
    reply_short : length s.list < length (opening g.key g.k (suc v)) → refusal 4 ≡ reply g (length s.list) (length s.table) admit
    unfolding reply
    reply_short h =
        let t : too_short g (length s.list) (due_in g) ≡ true = rw (d, add-one v, lt-ltb (length s.list) (length (opening g.key g.k (suc v))) h) refl in
        rw t refl

    reply_room : length (opening g.key g.k (suc v)) ≤ length s.list → result (answer g admit) ≡ reply g (length s.list) (length s.table) admit
    unfolding reply
    reply_room h =
        let t : too_short g (length s.list) (due_in g) ≡ false = rw (d, add-one v, le-ltb (length s.list) (length (opening g.key g.k (suc v))) h) refl in
        rw t refl

  reply_none : due_in g ≡ none → result [] ≡ reply g (length s.list) (length s.table) admit
  unfolding reply answer
  reply_none d = rw d refl

  admit_says : Admits (reservoir_of s.round) a → map_answer exchanged a.answer ≡ result (answer g admit)
  unfolding answer
  admit_says m = ap (map_answer exchanged) m.answer_is

  admit_part : AdmitAnew (reservoir_of s.round) s.list b a → Part a
  unfolding answer
  admit_part (finds_short v d h e) =
      subst Part (sym e) (reply_short v d h, or_none b false refl now)
  admit_part (finds_none d e m) = subst Part (sym e) (reply_none d, or_said b (subst (λ (z : After ReservoirState (Option (ℕ × ℕ))). Anew z.left.reservoir z.left.list true) e m))
  admit_part (brings_in v d h f m n) =
      let c : is_none admit (map_answer exchanged a.answer) ≡ false = ap (is_none admit) (admit_says m) ∙ rw d refl in
      (admit_says m ∙ reply_room v d h, or_none b (is_none admit (map_answer exchanged a.answer)) c (subst (Anew a.left.reservoir a.left.list) (sym f) n))

  admit_done : AdmitDone (call s admit)
  unfolding call admit_call
  admit_done =
      through AdmitDone exchanged (fitting s) (by_reservoir s a) (refused 12 s) (fits_kept s kept)
      (admit_part (admit_anew (reservoir_of s.round) s.list kept.list b now))

-- ---- a join and a withdraw: the reservoir and its list stay

join_said : (s : State) (g : Ledger) → Shows s g → (call s join).answer ≡ reply g (length s.list) (length s.table) join
unfolding reply
join_said s g h =
    ⊎_elim
    (λ (r : Refuses s g join (call s join)). ap (λ (a : After State (List ℕ)). a.answer) r.is ∙ rw (le-leb (min (length s.table) Slots.slot_limit) (free_slot g) r.no_room) refl)
    (λ (t : Takes s g join (call s join)). by_below (free_slot g) (min (length s.table) Slots.slot_limit)
    (λ l. t.answer_is ∙ rw (lt-leb (min (length s.table) Slots.slot_limit) (free_slot g) l) refl)
    (λ l. absurd (t.room l)))
    (outcome s g h join)

withdraw_said : (s : State) (g : Ledger) → Shows s g → (x : ℕ) → (call s (withdraw x)).answer ≡ reply g (length s.list) (length s.table) (withdraw x)
unfolding reply
withdraw_said s g h x =
    ⊎_elim
    (λ (r : Refuses s g (withdraw x) (call s (withdraw x))). ap (λ (a : After State (List ℕ)). a.answer) r.is ∙ rw r.no_room refl)
    (λ (t : Takes s g (withdraw x) (call s (withdraw x))). by_test (has x g.A)
    (λ y. t.answer_is ∙ rw y refl)
    (λ n. absurd (t.room n)))
    (outcome s g h (withdraw x))

module _ (s : State) (b : Bool) (now : ListAnew s b) where
  join_anew : ListAnew (call s join).left b
  unfolding call join_call
  join_anew = by_cond (λ (z : After State ℕ). ListAnew z.left b) (fitting s) _ _ (λ y. now) (λ n. now)

  withdraw_anew : (x : ℕ) → ListAnew (call s (withdraw x)).left b
  unfolding call withdraw_call
  withdraw_anew x = by_cond (λ (z : After State (Unit {0})). ListAnew z.left b) (fitting s) _ _ (λ y. now) (λ n. now)

-- ---- every call of a round that shows a ledger

pub call_said : (s : State) (g : Ledger) → Shows s g → (b : Bool) → ListAnew s b → (x : Call) → (call s x).answer ≡ reply g (length s.list) (length s.table) x
call_said s g h b now admit =
    subst (λ (z : Ledger). (call s admit).answer ≡ reply z (length s.list) (length s.table) admit) h.numbers (admit_done s g.A h.kept b now).0
call_said s g h b now join = join_said s g h
call_said s g h b now (withdraw x) = withdraw_said s g h x

pub call_anew : (s : State) → Kept s → (b : Bool) → ListAnew s b → (x : Call) → ListAnew (call s x).left (b || is_none x (call s x).answer)
call_anew s kept b now admit = (admit_done s (actives_of s) kept b now).1
call_anew s kept b now join = or_none b false refl (join_anew s b now)
call_anew s kept b now (withdraw x) = or_none b false refl (withdraw_anew s b now x)

-- ---- a list of calls made

refused_none : (x : Call) (c : ℕ) → is_none x (refusal c) ≡ false
refused_none admit c = refl
refused_none join c = refl
refused_none (withdraw x) c = refl

counts_anew : {s t : State} {x : Call} {w : Answer (List ℕ)} → Kept s → (b : Bool) → ListAnew s b → Counts s x w t → ListAnew t (b || is_none x w)
counts_anew {s = s} {x = x} kept b now (as_call e) = subst (λ (a : After State (List ℕ)). ListAnew a.left (b || is_none x a.answer)) (sym e) (call_anew s kept b now x)
counts_anew {s = s} {x = x} kept b now (as_none c answer_of left) =
    subst₂ (λ (v : Answer (List ℕ)) (u : State). ListAnew u (b || is_none x v)) (sym answer_of) (sym left) (or_none b (is_none x (refusal c)) (refused_none x c) now)

or_assoc : (a b c : Bool) → (a || b) || c ≡ a || (b || c)
or_assoc true b c = refl
or_assoc false b c = refl

made_anew : {s u : State} {xs : List Call} {ws : List (Answer (List ℕ))} (g : Ledger) → Shows s g → (b : Bool) → ListAnew s b → AllMade s xs ws u
    → ListAnew u (b || said_none xs ws)
made_anew g h b now (made_none s) = or_none b false refl now
made_anew g h b now (made_next {u = u} {x = x} {w = w} {xs = xs} {ws = ws} m ms) =
    subst (ListAnew u) (or_assoc b (is_none x w) (said_none xs ws))
    (made_anew (fed g x (is_refusal w)) (made_step g h m).1 (b || is_none x w) (counts_anew h.kept b now (made_counts m)) ms)

pub open_list_anew : (key k n : ℕ) (s : State) → Opens key k n s → ListAnew s false
open_list_anew key k n s o = open_anew key k n (reservoir_of s.round) s.list (open_list key k n s o).0

-- a round reached
pub reached_anew : (s : State) (h : Reached s) → ListAnew s (said_none h.calls h.answers)
reached_anew s h =
    made_anew (first_ledger h.key h.k h.n) (open_shows h.key h.k h.n h.start h.opens) false (open_list_anew h.key h.k h.n h.start h.opens) h.made

-- THE LAW of what is said
pub reached_said : (s : State) (h : Reached s) (g : Ledger) → Shows s g → (x : Call) → (call s x).answer ≡ reply g (length s.list) (length s.table) x
reached_said s h g shows x = call_said s g shows (said_none h.calls h.answers) (reached_anew s h) x
