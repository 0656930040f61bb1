-- Demand 1 of each call that may be refused, and of each line: a refusal is one of its own, and leaves the session and all that was lent as
-- they were. `feed` and `finish` are taken by their promises.
-- Assumes nothing.
use mathlib.Core.Path.{◌≡◌, refl, sym, subst}
use mathlib.Core.Bool.{◌||◌}
use mathlib.Core.List.{List, [], ◌∷◌}
use mathlib.Core.Option as maybe
use Prim.Native.Nat.{ℕ}
use lib.Dec.{ltb, leb, eqb}
use lib.ListN.{length, take}
use Rattle.std.specs.Prelude.{Result, Ok, Err, Option, Some, None}
use Rattle.answers.specs.Answers.{Answer, refusal, result, map_answer, After, after}
use Rattle.lists.specs.Lists.{same, has, every}
use Rattle.answers.specs.Refusing.{Among, Spares}
use Rattle.lists.proofs.Tests.{by_cond}
use Rattle.answers.proofs.Spared.{has_within, spared_within}
use Rattle.answers.specs.declared.Refusal.{Refusal}
use Rattle.rounds.specs.declared.round.Round.{Round}
use Rattle.rounds.specs.Rounds.{State, state, open_call, admit_call, join_call, withdraw_call}
use Rattle.rounds.specs.Plans.{plan_call, shown_plan, PlanLists, plan_lists}
use Rattle.rounds.specs.Ledgers.{Sheet}
use Rattle.rounds.specs.RefusedBy.{open_refusals, admit_refusals, join_refusals, withdraw_refusals, plan_refusals}
use Rattle.rounds.proofs.RefusedLaws as rounds
use Rattle.fields.specs.Lines.{fields, alike}
use Rattle.fields.specs.Numbers.{number_of, key_of}
use Rattle.lines.specs.Commands.{admit_word, join_word, plan_word, withdraw_word, open_word, word_alone, withdraw_form, word_and_one, open_form, word_and_three, by_fields, command_of, parse_call}
use Rattle.lines.specs.declared.commands.Command.{Command}
use Rattle.lines.specs.declared.commands.Command.TheVariants as command
use Rattle.lines.specs.declared.sessions.Session.{Session}
use Rattle.lines.specs.declared.sessions.Memory.{Memory}
use Rattle.lines.specs.declared.sessions.Fed.{Fed}
use Rattle.lines.specs.Replies.{Reply, joined, withdrawn, planned}
use Rattle.lines.specs.Sessions.{site, replaced, open_line, exchange_reply, admit_line, join_line, withdraw_line, World, world, plan_line, on_site, answered, respond}
use Rattle.fields.specs.Cuts.{held_most}
use Rattle.lines.specs.Streams.{room_for, answer_of_feeding, world_of, after_call, feed_call, end_call, BuffersAfter, FeedMemory, Count, feed_memory}
use Rattle.lines.specs.RefusedBy.{parse_refusals, feed_refusals, finish_refusals, line_refusals}

-- ---- parse

withdraw_among : (o : maybe.Option ℕ) → Among parse_refusals (withdraw_form o)
unfolding has same
withdraw_among maybe.none = refl
withdraw_among (maybe.some x) = tt

open_among : (a b c : maybe.Option ℕ) → Among parse_refusals (open_form a b c)
unfolding has same
open_among maybe.none b c = refl
open_among (maybe.some x) maybe.none c = refl
open_among (maybe.some x) (maybe.some y) maybe.none = refl
open_among (maybe.some x) (maybe.some y) (maybe.some z) = tt

fields_among : (fs : List (List ℕ)) → Among parse_refusals (by_fields fs)
unfolding word_alone word_and_one word_and_three has same
fields_among [] = refl
fields_among (w ∷ []) =
    by_cond (Among parse_refusals) (alike w admit_word) _ _ (λ y. tt)
    (λ n. by_cond (Among parse_refusals) (alike w join_word) _ _ (λ y. tt)
    (λ n. by_cond (Among parse_refusals) (alike w plan_word) _ _ (λ y. tt) (λ n. refl)))
fields_among (w ∷ a ∷ []) = by_cond (Among parse_refusals) (alike w withdraw_word) _ _ (λ y. withdraw_among (number_of a)) (λ n. refl)
fields_among (w ∷ a ∷ b ∷ []) = refl
fields_among (w ∷ a ∷ b ∷ c ∷ []) =
    by_cond (Among parse_refusals) (alike w open_word) _ _ (λ y. open_among (key_of a) (number_of b) (number_of c)) (λ n. refl)
fields_among (w ∷ a ∷ b ∷ c ∷ d ∷ more) = refl

pub parse_refuses : (line : List ℕ) → Among parse_refusals (parse_call line)
unfolding parse_call command_of has same
parse_refuses line = by_cond (Among parse_refusals) (leb (length line) 80) _ _ (λ short. fields_among (fields line)) (λ long. refl)

-- ---- feed and finish

module _ (w : World) (line : List ℕ) (m : ℕ) (out : List ℕ) where
  -- what they leave of what the model has
  abbrev Spared : List ℕ → After FeedMemory Count → Type 0
  Spared ws a = Spares ws a.answer (feed_memory w (take m line) m out) a.left

  feed_spares : (piece : List ℕ) → Spared feed_refusals (feed_call w line m piece out)
  unfolding feed_call has same
  feed_spares piece =
      by_cond (Spared feed_refusals) (ltb held_most m || ltb (length line) m) _ _ (λ unfit. (refl, refl))
      (λ fits. by_cond (Spared feed_refusals) (ltb (length line) held_most || ltb (length out) (room_for w.locations))
      _ _ (λ short. (refl, refl)) (λ long. tt))

  finish_spares : Spared finish_refusals (end_call w line m out)
  unfolding end_call
  finish_spares = by_cond (Spared finish_refusals) (eqb m 0) _ _ (λ nothing. tt) (λ held. feed_spares (10 ∷ []))

-- a session, its world with the lists that it was lent, the line, the list of what is put out, and the scratch
abbrev pub Lent : Type 0
Lent = Session × (World × (List ℕ × (List ℕ × List ℕ)))

abbrev pub lent : Session → Memory → List ℕ → List ℕ → Lent
lent s m line out = (s, (world_of s m, (line, (out, m.scratch.now))))

module _ (s s' : Session) (m m' : Memory) (line line' out out' : List ℕ) where
  abbrev LeftSo : (Result Fed Refusal) → After FeedMemory Count → Type 0
  LeftSo r a = (after_call r s' (world_of s' m') line' out' ≡ a) × BuffersAfter r line line' m.scratch.now m'.scratch.now

  all_spared : (ws : List ℕ) (r : Result Fed Refusal) (a : After FeedMemory Count) → Spared (world_of s m) line s.held out ws a → LeftSo r a
      → Spares {M = Lent} ws (answer_of_feeding r) (lent s m line out) (lent s' m' line' out')
  all_spared ws (Ok f) a h e = tt
  all_spared ws (Err why) a h e =
      let p = subst (Spared (world_of s m) line s.held out ws) (sym e.0) h in
      (p.0, (λ i. (record { current = (p.1 i).world.site.current; held = (p.1 i).size }, ((p.1 i).world, (e.1.0 i, ((p.1 i).out, e.1.1 i))))))

  pub feed_refuses : (piece : List ℕ) (r : Result Fed Refusal)
      → after_call r s' (world_of s' m') line' out' ≡ feed_call (world_of s m) line s.held piece out
      → BuffersAfter r line line' m.scratch.now m'.scratch.now
      → Spares {M = Lent} feed_refusals (answer_of_feeding r) (lent s m line out) (lent s' m' line' out')
  feed_refuses piece r e b = all_spared feed_refusals r _ (feed_spares (world_of s m) line s.held out piece) (e, b)

  pub finish_refuses : (r : Result Fed Refusal)
      → after_call r s' (world_of s' m') line' out' ≡ end_call (world_of s m) line s.held out → BuffersAfter r line line' m.scratch.now m'.scratch.now
      → Spares {M = Lent} finish_refusals (answer_of_feeding r) (lent s m line out) (lent s' m' line' out')
  finish_refuses r e b = all_spared finish_refusals r _ (finish_spares (world_of s m) line s.held out) (e, b)

-- ---- a line

module _ (l t ls ts : List ℕ) (places : ℕ) where
  -- with this round, or none
  abbrev with_round : Option Round → World
  with_round c = world (site c l t) ls ts places

  abbrev LineSpared : Option Round → After World Reply → Type 0
  LineSpared c a = Spares line_refusals a.answer (with_round c) a.left

  -- "a refused one changes nothing"
  replaced_spares : (c : Option Round) (o : Answer Round) (l' : List ℕ) → Spares line_refusals o l l'
      → LineSpared c (on_site (with_round c) (replaced (site c l t) o l'))
  replaced_spares c (refusal w) l' s = (s.0, refl)
  replaced_spares c (result r) l' s = tt

  -- a call on the round
  said_spares : {A : Type 0} (f : A → Reply) (r : Round) (o : Answer A) (s' : State) → Spares line_refusals o (state r l t) s'
      → LineSpared (Some r) (on_site (with_round (Some r)) (after (map_answer f o) (site (Some s'.round) s'.list s'.table)))
  said_spares f r (refusal w) s' s = (s.0, (λ i. world (site (Some (s.1 i).round) (s.1 i).list (s.1 i).table) ls ts places))
  said_spares f r (result x) s' s = tt

  open_line_spares : (c : Option Round) (key k n : ℕ) → LineSpared c (on_site (with_round c) (open_line key k n (site c l t)))
  unfolding open_line every has same
  open_line_spares c key k n =
      let o = open_call key k n l in
      replaced_spares c o.answer o.left (spared_within open_refusals line_refusals o.answer l o.left refl (rounds.open_refuses key k n l))

  admit_line_spares : (c : Option Round) → LineSpared c (on_site (with_round c) (admit_line (site c l t)))
  unfolding admit_line every has same
  admit_line_spares None = (refl, refl)
  admit_line_spares (Some r) =
      let s = state r l t in
      let a = admit_call s in
      said_spares exchange_reply r a.answer a.left (spared_within admit_refusals line_refusals a.answer s a.left refl (rounds.admit_refuses s))

  join_line_spares : (c : Option Round) → LineSpared c (on_site (with_round c) (join_line (site c l t)))
  unfolding join_line every has same
  join_line_spares None = (refl, refl)
  join_line_spares (Some r) =
      let s = state r l t in
      let a = join_call s in
      said_spares joined r a.answer a.left (spared_within join_refusals line_refusals a.answer s a.left refl (rounds.join_refuses s))

  withdraw_line_spares : (x : ℕ) (c : Option Round) → LineSpared c (on_site (with_round c) (withdraw_line x (site c l t)))
  unfolding withdraw_line every has same
  withdraw_line_spares x None = (refl, refl)
  withdraw_line_spares x (Some r) =
      let s = state r l t in
      let a = withdraw_call s x in
      said_spares (λ u. withdrawn x) r a.answer a.left
      (spared_within withdraw_refusals line_refusals a.answer s a.left refl (rounds.withdraw_refuses s x))

  planned_spares : (c : Option Round) (f : Unit {0} → List Sheet) (o : Answer (Unit {0})) (p : PlanLists) → Spares line_refusals o (plan_lists ls ts) p
      → LineSpared c (after (map_answer planned (map_answer f o)) (world (site c l t) p.locations p.terminals places))
  planned_spares c f (refusal w) p s = (s.0, (λ i. world (site c l t) (s.1 i).locations (s.1 i).terminals places))
  planned_spares c f (result u) p s = tt

  plan_line_spares : (c : Option Round) → LineSpared c (plan_line (with_round c))
  unfolding plan_line shown_plan every has same
  plan_line_spares None = (refl, refl)
  plan_line_spares (Some r) =
      let s = state r l t in
      let p = plan_call s ls ts places in
      planned_spares (Some r) _ p.answer p.left
      (spared_within plan_refusals line_refusals p.answer (plan_lists ls ts) p.left refl (rounds.plan_spares s ls ts places))

  answered_spares : (c : Option Round) (o : Answer Command) → Among parse_refusals o → LineSpared c (answered (with_round c) o)
  unfolding answered every has same
  answered_spares c (refusal w) a = (has_within parse_refusals line_refusals refl w a, refl)
  answered_spares c (result (command.Open key k n)) a = open_line_spares c key k n
  answered_spares c (result command.Admit) a = admit_line_spares c
  answered_spares c (result command.Join) a = join_line_spares c
  answered_spares c (result (command.Withdraw x)) a = withdraw_line_spares x c
  answered_spares c (result command.Plan) a = plan_line_spares c

-- "refused .." to a line leaves all that the program has as it was
pub line_refuses : (w : World) (line : List ℕ) → let a = respond w line in Spares line_refusals a.answer w a.left
unfolding respond parse_call
line_refuses w line = answered_spares w.site.list w.site.table w.locations w.terminals w.places w.site.current (command_of line) (parse_refuses line)
