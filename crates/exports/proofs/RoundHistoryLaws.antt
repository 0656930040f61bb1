-- Calls on a round that stands in words are calls as demand 3 has them.
-- Assumes nothing.
use mathlib.Core.Path.{◌≡◌, refl, sym, ap, subst, ◌∙◌}
use mathlib.Core.Bool.{false}
use mathlib.Core.List.{List, [], ◌∷◌}
use mathlib.Core.Option.{Option, none, some}
use Prim.Native.Nat.{ℕ, ◌+◌, ◌-◌, ◌*◌, ◌/◌, ◌%◌, ◌^◌, ◌≤◌}
use native.Mathlib.Omega.{arith}
use borrow.Author.Tests.{lt-ltb, le-ltb, ne_eqb}
use lib.Dec.{eqb}
use lib.ListN.{length}
use Rattle.answers.specs.Answers.{Answer, refusal, result, map_answer, After, after}
use Rattle.lists.specs.Lists.{written}
use Rattle.lists.proofs.Tests.{by_below}
use Rattle.lists.proofs.Writing.{length_written}
use Rattle.answers.specs.Making.{short_refusal}
use Rattle.rounds.specs.declared.round.Round.{Round}
use Rattle.rounds.specs.Rounds.{State, state, open_call, admit_call, join_call, withdraw_call}
use Rattle.rounds.specs.Ledgers.{Call, admit, join, withdraw, exchanged}
use Rattle.rounds.specs.Histories.{slot_said, nothing_said, Opens, Made, AllMade, made_none, made_next, valued, call}
use Rattle.rounds.proofs.FormLaws.{answer_back, numbered, call_made, refused_unchanged}
use Rattle.exports.specs.Coded.{coded_by, coded_done, coded_number}
use Rattle.exports.specs.Reservoirs.{exchange_number}
use Rattle.exports.specs.Crossings.{Crossed, crossed, WordsList, words_list, words_by}
use Rattle.exports.specs.Rounds.{round_words, round_as, round_lending, Lent, lent, round_in, open_crossed, admit_crossed, join_crossed, withdraw_crossed, plan_crossed}
use Rattle.exports.specs.RoundHistories.{OpenedIn, MadeIn, admit_in, join_in, withdraw_in, AllMadeIn, none_in, next_in, number_of, numbers_of, plan_said, PlannedIn, RoundHistory}
use Rattle.answers.specs.Refusals.{answer_of}
use Rattle.answers.proofs.BackLaws.{refusal_of, back}
use Rattle.lists.specs.Lists.{every}
use Rattle.rounds.specs.RefusedBy.{plan_refusals}
use Rattle.rounds.proofs.RefusedLaws.{plan_spares}
use Rattle.rounds.specs.Plans.{PlanLists, plan_lists, plan_call, shown_plan}
use Rattle.rounds.specs.Demand3.{PlanOf}

-- ---- the words read back as the record

pub round_back : (r : Round) (ws : List ℕ) → round_as (written (round_words r) ws) ≡ r
unfolding written
round_back r ws =
    let key : r.master_key / 2 ^ 32 * 2 ^ 32 + r.master_key % 2 ^ 32 ≡ r.master_key = omega arith in
    λ i. record { master_key = key i; k = r.k; n = r.n; j_max = r.j_max; used = r.used; total = r.total }

long_after : {A : Type 0} (ws : List ℕ) (t : Answer A) (r : Round) → 7 ≤ length ws → 7 ≤ length (words_by (λ x. round_words r) ws t)
long_after ws (result x) r h = omega (arith, length_written (round_words r) ws h)
long_after ws (refusal c) r h = h

-- ---- a call

module _ (s : State) (c : Call) (ws : List ℕ) (is : round_as ws ≡ s.round) where
  -- the words after a call hold the record after it
  words_hold : (w : Answer (List ℕ)) → (call s c).answer ≡ w → round_as (words_by (λ v. round_words (call s c).left.round) ws w) ≡ (call s c).left.round
  words_hold (result vs) e = round_back (call s c).left.round ws
  words_hold (refusal n) e =
      let m : Made s c (refusal n) (call s c).left = subst (λ (w : Answer (List ℕ)). Made s c w (call s c).left) e (call_made s c) in
      is ∙ sym (ap (λ (z : State). z.round) (refused_unchanged m))

  words_back : round_as (words_by (λ v. round_words (call s c).left.round) ws (call s c).answer) ≡ (call s c).left.round
  words_back = words_hold (call s c).answer refl

-- what is so of a call: it is made on the round in x, its answer is a, and enough words stand there still
record CallIn (x : Lent) (c : Call) (a : ℕ) (y : Lent) : Type 0 where
  w : Answer (List ℕ)
  made : Made (round_in x) c w (round_in y)
  said : a ≡ number_of c w
  long : 7 ≤ length y.words

after_map : {A B : Type 0} (f : A → B) (ws rs : List ℕ) (t : Answer A) → words_by (λ v. rs) ws t ≡ words_by (λ v. rs) ws (map_answer f t)
after_map f ws rs (result x) = refl
after_map f ws rs (refusal c) = refl

-- by the model's call b, whose values are f's and whose answer is coded so
module _ (x : Lent) (h : 7 ≤ length x.words) (c : Call) {B : Type 0} (f : B → List ℕ) (b : After State B) (value : B → ℕ)
    (is_call : valued f b ≡ call (round_in x) c) (is_code : (t : Answer B) → coded_by value t ≡ number_of c (map_answer f t)) where
  abbrev z : After State (List ℕ)
  z = call (round_in x) c

  call_in : (a : ℕ) (ws l t : List ℕ) → crossed a (lent ws l t) ≡ crossed (coded_by value b.answer) (round_lending.lay (words_by (λ v. round_words b.left.round) x.words b.answer) b.left)
      → CallIn x c a (lent ws l t)
  call_in a ws l t e =
      let words : ws ≡ words_by (λ v. round_words z.left.round) x.words z.answer =
      ap (λ (r : Crossed Lent). r.left.words) e ∙ after_map f x.words (round_words b.left.round) b.answer
      ∙ ap (λ (q : After State (List ℕ)). words_by (λ v. round_words q.left.round) x.words q.answer) is_call in
      let round : round_as ws ≡ z.left.round = ap round_as words ∙ words_back (round_in x) c x.words refl in
      let list : l ≡ z.left.list = ap (λ (r : Crossed Lent). r.left.list) e ∙ ap (λ (q : After State (List ℕ)). q.left.list) is_call in
      let table : t ≡ z.left.table = ap (λ (r : Crossed Lent). r.left.table) e ∙ ap (λ (q : After State (List ℕ)). q.left.table) is_call in
      let left : z.left ≡ state (round_as ws) l t = λ i. state (sym round i) (sym list i) (sym table i) in
      record {
        w = z.answer;
        made = subst (Made (round_in x) c z.answer) left (call_made (round_in x) c);
        said = ap (λ (r : Crossed Lent). r.answer) e ∙ is_code b.answer ∙ ap (λ (q : After State (List ℕ)). number_of c q.answer) is_call;
        long = subst (λ (v : List ℕ). 7 ≤ length v) (sym words) (long_after x.words z.answer z.left.round h);
      }

code_exchange : (t : Answer (Option (ℕ × ℕ))) → coded_by exchange_number t ≡ number_of admit (map_answer exchanged t)
code_exchange (result none) = refl
code_exchange (result (some p)) = refl
code_exchange (refusal c) = refl

code_slot : (t : Answer ℕ) → coded_number t ≡ number_of join (map_answer slot_said t)
code_slot (result y) = refl
code_slot (refusal c) = refl

code_nothing : (x : ℕ) (t : Answer (Unit {0})) → coded_done t ≡ number_of (withdraw x) (map_answer nothing_said t)
code_nothing x (result u) = refl
code_nothing x (refusal c) = refl

module _ (x : Lent) (h : 7 ≤ length x.words) where
  one_in : {c : Call} {a : ℕ} {y : Lent} → MadeIn x c a y → CallIn x c a y
  unfolding call admit_crossed join_crossed withdraw_crossed
  one_in (admit_in a ws l e) =
      call_in x h admit exchanged (admit_call (round_in x)) exchange_number refl code_exchange a ws l x.table (rw (le-ltb (length x.words) 7 h) at e)
  one_in (join_in a ws t e) =
      call_in x h join slot_said (join_call (round_in x)) (λ y. y) refl code_slot a ws x.list t (rw (le-ltb (length x.words) 7 h) at e)
  one_in (withdraw_in slot a ws t e) =
      call_in x h (withdraw slot) nothing_said (withdraw_call (round_in x) slot) (λ u. 0) refl (code_nothing slot) a ws x.list t (rw (le-ltb (length x.words) 7 h) at e)

-- ---- a list of calls

record CallsIn (x : Lent) (calls : List Call) (numbers : List ℕ) (y : Lent) : Type 0 where
  long : 7 ≤ length y.words
  answers : List (Answer (List ℕ))
  made : AllMade (round_in x) calls answers (round_in y)
  said : numbers ≡ numbers_of calls answers

calls_in : {x y : Lent} {calls : List Call} {numbers : List ℕ} → 7 ≤ length x.words → AllMadeIn x calls numbers y → CallsIn x calls numbers y
calls_in h (none_in x) = record { long = h; answers = []; made = made_none (round_in x); said = refl }
calls_in h (next_in {x = x} {c = c} m ms) =
    let one = one_in x h m in
    let rest = calls_in one.long ms in
    record { long = rest.long; answers = one.w ∷ rest.answers; made = made_next one.made rest.made; said = λ i. one.said i ∷ rest.said i }

-- ---- the open

-- an open that answered 0 is accepted, and enough words stand there
module _ (key k n : ℕ) (x : Lent) (o : OpenedIn key k n x) where
  abbrev opened : After (List ℕ) Round
  opened = open_call key k n o.list

  opens_by : 7 ≤ length o.words → (t : Answer Round) → opened.answer ≡ t → crossed 0 (words_list x.words x.list) ≡ crossed (coded_done t) (words_list (words_by round_words o.words t) opened.left)
      → Opens key k n (round_in x) × (7 ≤ length x.words)
  opens_by h (result r) q e =
      let words : x.words ≡ written (round_words r) o.words = ap (λ (z : Crossed WordsList). z.left.words) e in
      let list : x.list ≡ opened.left = ap (λ (z : Crossed WordsList). z.left.list) e in
      let round : round_as x.words ≡ r = ap round_as words ∙ round_back r o.words in
      (record { lent = o.list; accepted = λ i. after ((q ∙ ap result (sym round)) i) (sym list i) }, omega (arith, ap length words, length_written (round_words r) o.words h))
  opens_by h (refusal w) q e = absurd (omega (arith, ap (λ (z : Crossed WordsList). z.answer) e))

  opens_in : Opens key k n (round_in x) × (7 ≤ length x.words)
  unfolding open_crossed
  opens_in =
      by_below (length o.words) 7
      (λ l. let e : crossed 0 (words_list x.words x.list) ≡ crossed (2 ^ 63 + short_refusal (2 ^ 30) 1 k n) (words_list o.words o.list) = rw (lt-ltb (length o.words) 7 l) at o.promise in
      absurd (omega (arith, ap (λ (z : Crossed WordsList). z.answer) e)))
      (λ h. opens_by h opened.answer refl (rw (le-ltb (length o.words) 7 h) at o.promise))

-- ---- the plan

module _ (x : Lent) (h : 7 ≤ length x.words) (a : ℕ) (ls' ts' : List ℕ) (p : PlannedIn x a ls' ts') where
  abbrev plan_left : After PlanLists (Unit {0})
  plan_left = plan_call (round_in x) p.ls p.ts p.places

  -- by what it said
  said_by : (t : Answer (Unit {0})) → a ≡ coded_done t → shown_plan (round_in x).round.k (after t (plan_lists ls' ts')) ≡ plan_said (round_in x).round.k a ls' ts'
  unfolding shown_plan
  said_by (result u) e = rw e refl
  said_by (refusal w) e =
      let n : eqb a 0 ≡ false = ne_eqb a 0 (λ z. omega arith) in
      let m : a - 2 ^ 63 ≡ w = omega (arith, e) in
      rw (n, m) refl

  plan_in : PlanOf (round_in x) (plan_said (round_in x).round.k a ls' ts')
  unfolding plan_crossed every refusal_of
  plan_in =
      let e : crossed a (plan_lists ls' ts') ≡ crossed (coded_done plan_left.answer) plan_left.left = rw (le-ltb (length x.words) 7 h) at p.promise in
      let answer_is : plan_left.answer ≡ answer_of (back plan_left.answer) =
      answer_back plan_left.answer (numbered plan_refusals plan_left.answer (plan_lists p.ls p.ts) plan_left.left refl (plan_spares (round_in x) p.ls p.ts p.places)) in
      record {
        ls = p.ls;
        ts = p.ts;
        places = p.places;
        enough = p.enough;
        o = back plan_left.answer;
        ls' = ls';
        ts' = ts';
        promise = λ i. after (sym answer_is i) (e i).left;
        is = ap (λ (t : Answer (Unit {0})). shown_plan (round_in x).round.k (after t (plan_lists ls' ts'))) (sym answer_is) ∙ said_by plan_left.answer (ap (λ (z : Crossed PlanLists). z.answer) e);
      }

-- THE THEOREM. From an open that answered 0, a list of functions called is a list of calls made, and a plan after it is the round's.
pub round_history : (key k n : ℕ) (x y : Lent) → OpenedIn key k n x → (calls : List Call) (numbers : List ℕ) → AllMadeIn x calls numbers y → RoundHistory key k n x calls numbers y
round_history key k n x y o calls numbers m =
    let b = opens_in key k n x o in
    let c = calls_in b.1 m in
    record { opens = b.0; answers = c.answers; made = c.made; said = c.said; planned = plan_in y c.long }
