-- Two rounds that are alike stay so: with lists and tables of one length, or where none is found too short.
-- Assumes nothing.
use mathlib.Core.Path.{◌≡◌, refl, sym, ap, subst, ◌∙◌}
use mathlib.Core.Bool.{Bool, true, false, true≢false, cond, not}
use mathlib.Core.Logic.{◌≢◌}
use mathlib.Core.List.{List, [], ◌∷◌}
use Prim.Native.Nat.{ℕ, ◌<◌, min}
use native.Mathlib.Omega.{arith}
use lib.Dec.{leb}
use lib.ListN.{length}
use Rattle.answers.specs.Answers.{Answer, refusal, result, is_refusal}
use Rattle.lists.specs.Lists.{has}
use Rattle.lists.proofs.Tests.{by_test, by_three}
use Rattle.lists.proofs.Searching.{by_first}
use Rattle.lists.proofs.Sets.{Same, same_put, same_without}
use Rattle.orders.specs.Orders.{layer_of}
use Rattle.orders.specs.Reservoirs.{opening, due, n_after}
use Rattle.orders.specs.ReservoirCalls.{listed}
use Rattle.orders.proofs.ReservoirLaws.{used_is}
use Rattle.choosers.specs.SlotCalls.{slot_limit}
use Rattle.choosers.proofs.SlotLaws.{Bounded, has_actives, actives_bounded}
use Rattle.rounds.specs.Rounds.{State, reservoir_of}
use Rattle.rounds.specs.Ledgers.{Call, admit, join, withdraw, Ledger, ledger, first_ledger, due_in, free_slot, accept, answer, fed}
use Rattle.rounds.specs.Histories.{Opens, call, after_all, all_said}
use Rattle.rounds.specs.Demand3.{Reached, Alike}
use Rattle.rounds.specs.Outcomes.{too_short, reply}
use Rattle.rounds.specs.Fleets.{SameAfter, NeverShort, said_none, AsOpened, Fleet}
use Rattle.rounds.proofs.RoundLaws.{Kept, actives_of, shown, Shows, shows_own, open_list, open_shows}
use Rattle.rounds.proofs.StepLaws.{step, step_length, step_bytes}
use Rattle.rounds.proofs.MadeLaws.{reached_kept, reached_call}
use Rattle.rounds.proofs.MoveLaws.{same_plan}
use Rattle.rounds.proofs.Demand3Laws.{shown_is}
use Rattle.rounds.proofs.ReplyLaws.{reached_said, reached_anew, open_list_anew}

-- ---- the free slot goes by A alone

not_yes : (b : Bool) → not b ≡ true → b ≡ false
not_yes false e = refl
not_yes true e = absurd (true≢false (sym e))

not_no : (b : Bool) → not b ≡ false → b ≡ true
not_no true e = refl
not_no false e = absurd (true≢false e)

-- the slots of A are below the count
abbrev Inside : Ledger → Type 0
Inside g = Bounded g.A g.c

-- it is outside A,
free_out : (g : Ledger) → Inside g → has (free_slot g) g.A ≡ false
unfolding free_slot
free_out g b =
    by_first (λ x. not (has x g.A)) 0 g.c
    (λ i f l h y z. rw f (not_yes (has i g.A) y))
    (λ f z. rw f (by_test (has g.c g.A) (λ y. absurd (omega (arith, b g.c y))) (λ n. n)))

-- and all below it are inside
free_under : (g : Ledger) (u : ℕ) → u < free_slot g → has u g.A ≡ true
unfolding free_slot
free_under g u h =
    by_first (λ x. not (has x g.A)) 0 g.c
    (λ i f a b y z. let l : u < i = rw f at h in not_no (has u g.A) (z u (omega arith) l))
    (λ f z. let l : u < g.c = rw f at h in not_no (has u g.A) (z u (omega arith) (omega arith)))

free_same : (g h : Ledger) → Inside g → Inside h → Same g.A h.A → free_slot g ≡ free_slot h
free_same g h a b e =
    by_three (free_slot g) (free_slot h)
    (λ l. absurd (true≢false (sym (free_under h (free_slot g) l) ∙ sym (e (free_slot g)) ∙ free_out g a)))
    (λ q. q)
    (λ l. absurd (true≢false (sym (free_under g (free_slot h) l) ∙ e (free_slot h) ∙ free_out h b)))

-- ---- ledgers alike: the count may differ

record LedgersAlike (g h : Ledger) : Type 0 where
  key : g.key ≡ h.key
  k : g.k ≡ h.k
  n : g.n ≡ h.n
  set : Same g.A h.A
  free : free_slot g ≡ free_slot h

module _ (g h : Ledger) (e : LedgersAlike g h) where
  answer_alike : (x : Call) → answer g x ≡ answer h x
  unfolding answer
  answer_alike admit = λ i. answer (ledger (e.key i) (e.k i) (e.n i) g.A g.c) admit
  answer_alike join = ap (λ (y : ℕ). y ∷ []) e.free
  answer_alike (withdraw x) = refl

  short_alike : (places : ℕ) → too_short g places (due_in g) ≡ too_short h places (due_in h)
  short_alike places = λ i. too_short (ledger (e.key i) (e.k i) (e.n i) g.A g.c) places (due (e.key i) (e.k i) (e.n i))

  reply_alike : (places bytes : ℕ) (x : Call) → reply g places bytes x ≡ reply h places bytes x
  unfolding reply
  reply_alike places bytes admit = λ i. cond (short_alike places i) (refusal 4) (result (answer_alike admit i))
  reply_alike places bytes join = λ i. cond (leb (min bytes slot_limit) (e.free i)) (refusal 9) (result (answer_alike join i))
  reply_alike places bytes (withdraw x) = λ i. cond (e.set x i) (result (answer_alike (withdraw x) i)) (refusal 10)

-- of a round's own ledger
abbrev own : State → Ledger
own s = shown s (actives_of s)

module _ (s t : State) (e : Alike s t) where
  own_same : Same (actives_of s) (actives_of t)
  own_same x = has_actives s.table s.round.total x ∙ e.active x ∙ sym (has_actives t.table t.round.total x)

  own_alike : LedgersAlike (own s) (own t)
  own_alike = record {
    key = e.key;
    k = e.k;
    n = e.n;
    set = own_same;
    free = free_same (own s) (own t) (actives_bounded s.table s.round.total) (actives_bounded t.table t.round.total) own_same;
  }

-- ---- after a call that both answer alike

-- the four facts of two ledgers
record SameFour (g h : Ledger) : Type 0 where
  key : g.key ≡ h.key
  k : g.k ≡ h.k
  n : g.n ≡ h.n
  set : Same g.A h.A

module _ (g h : Ledger) (e : LedgersAlike g h) where
  accept_alike : (x : Call) → SameFour (accept g x) (accept h x)
  unfolding accept
  accept_alike admit = record { key = e.key; k = e.k; n = λ i. n_after (e.n i) (due (e.key i) (e.k i) (e.n i)); set = e.set }
  accept_alike join = record {
    key = e.key;
    k = e.k;
    n = e.n;
    set = λ x. same_put (free_slot g) g.A h.A e.set x ∙ ap (λ (y : ℕ). has x (y ∷ h.A)) e.free;
  }
  accept_alike (withdraw x) = record { key = e.key; k = e.k; n = e.n; set = same_without x g.A h.A e.set }

  fed_alike : (x : Call) (b : Bool) → SameFour (fed g x b) (fed h x b)
  fed_alike x true = record { key = e.key; k = e.k; n = e.n; set = e.set }
  fed_alike x false = accept_alike x

-- rounds that show ledgers with the same four facts are alike
shown_alike : (s t : State) (g h : Ledger) → Shows s g → Shows t h → SameFour g h → Alike s t
shown_alike s t g h a b e =
    let u = shown_is s g a in
    let v = shown_is t h b in
    record { key = u.key ∙ e.key ∙ sym v.key; k = u.k ∙ e.k ∙ sym v.k; n = u.n ∙ e.n ∙ sym v.n; active = λ x. u.active x ∙ e.set x ∙ sym (v.active x) }

alike_next : (s t : State) → Kept s → Kept t → Alike s t → (x : Call) → (call s x).answer ≡ (call t x).answer → Alike (call s x).left (call t x).left
alike_next s t a b e x q =
    let h : Shows (call t x).left (fed (own t) x (is_refusal (call t x).answer)) = (step t (own t) (shows_own t b) x).1 in
    shown_alike (call s x).left (call t x).left (fed (own s) x (is_refusal (call s x).answer)) (fed (own t) x (is_refusal (call s x).answer))
    (step s (own s) (shows_own s a) x).1 (subst (λ (w : Answer (List ℕ)). Shows (call t x).left (fed (own t) x (is_refusal w))) (sym q) h)
    (fed_alike (own s) (own t) (own_alike s t e) x (is_refusal (call s x).answer))

-- ---- what both say

refused_not : (b : Bool) (c : ℕ) (w : Answer (List ℕ)) → cond b (refusal c) w ≢ refusal c → cond b (refusal c) w ≡ w
refused_not true c w d = absurd (d refl)
refused_not false c w d = refl

-- a reply that is not 4 or 9 goes by no length
reply_roomy : (g : Ledger) (x : Call) (places bytes places' bytes' : ℕ) → reply g places bytes x ≢ refusal 4 → reply g places bytes x ≢ refusal 9
    → reply g places' bytes' x ≢ refusal 4 → reply g places' bytes' x ≢ refusal 9 → reply g places bytes x ≡ reply g places' bytes' x
unfolding reply
reply_roomy g admit p b p' b' four nine four' nine' =
    refused_not (too_short g p (due_in g)) 4 (result (answer g admit)) four ∙ sym (refused_not (too_short g p' (due_in g)) 4 (result (answer g admit)) four')
reply_roomy g join p b p' b' four nine four' nine' =
    refused_not (leb (min b slot_limit) (free_slot g)) 9 (result (answer g join)) nine ∙ sym (refused_not (leb (min b' slot_limit) (free_slot g)) 9 (result (answer g join)) nine')
reply_roomy g (withdraw x) p b p' b' four nine four' nine' = refl

module _ (s t : State) (r : Reached s) (u : Reached t) (e : Alike s t) (x : Call) where
  own_said : (call s x).answer ≡ reply (own s) (length s.list) (length s.table) x
  own_said = reached_said s r (own s) (shows_own s (reached_kept s r)) x

  other_said : (call t x).answer ≡ reply (own s) (length t.list) (length t.table) x
  other_said = reached_said t u (own t) (shows_own t (reached_kept t u)) x ∙ sym (reply_alike (own s) (own t) (own_alike s t e) (length t.list) (length t.table) x)

  -- with lists of one length and tables of one length,
  same_lengths : length s.list ≡ length t.list → length s.table ≡ length t.table → (call s x).answer ≡ (call t x).answer
  same_lengths l b = own_said ∙ (λ i. reply (own s) (l i) (b i) x) ∙ sym other_said

  -- and where neither is refused 4 or 9
  never_short : (call s x).answer ≢ refusal 4 → (call s x).answer ≢ refusal 9 → (call t x).answer ≢ refusal 4 → (call t x).answer ≢ refusal 9 → (call s x).answer ≡ (call t x).answer
  never_short a b c d =
      own_said
      ∙ reply_roomy (own s) x (length s.list) (length s.table) (length t.list) (length t.table) (λ q. a (own_said ∙ q)) (λ q. b (own_said ∙ q)) (λ q. c (other_said ∙ q)) (λ q. d (other_said ∙ q))
      ∙ sym other_said

-- ---- over a list of calls

record Together (s t : State) (calls : List Call) : Type 0 where
  answers : all_said s calls ≡ all_said t calls
  one : Reached (after_all s calls)
  other : Reached (after_all t calls)
  alike : Alike (after_all s calls) (after_all t calls)

together_none : (s t : State) → Reached s → Reached t → Alike s t → Together s t []
unfolding all_said after_all
together_none s t r u e = record { answers = refl; one = r; other = u; alike = e }

together_next : (s t : State) (x : Call) (xs : List Call) → (call s x).answer ≡ (call t x).answer → Together (call s x).left (call t x).left xs → Together s t (x ∷ xs)
unfolding all_said after_all
together_next s t x xs q h = record { answers = λ i. q i ∷ h.answers i; one = h.one; other = h.other; alike = h.alike }

same_after : (s t : State) (calls : List Call) → Together s t calls → SameAfter s t calls
same_after s t calls h = record { answers = h.answers; alike = h.alike; plans = same_plan (after_all s calls) (after_all t calls) h.one h.other h.alike }

same_together : (calls : List Call) (s t : State) → Reached s → Reached t → Alike s t → length s.list ≡ length t.list → length s.table ≡ length t.table → Together s t calls
same_together [] s t r u e l b = together_none s t r u e
same_together (x ∷ xs) s t r u e l b =
    let q = same_lengths s t r u e x l b in
    together_next s t x xs q
    (same_together xs (call s x).left (call t x).left (reached_call s r x) (reached_call t u x) (alike_next s t (reached_kept s r) (reached_kept t u) e x q)
    (step_length s x ∙ l ∙ sym (step_length t x)) (step_bytes s x ∙ b ∙ sym (step_bytes t x)))

never_together : (calls : List Call) (s t : State) → Reached s → Reached t → Alike s t → NeverShort (all_said s calls) → NeverShort (all_said t calls) → Together s t calls
unfolding all_said
never_together [] s t r u e a b = together_none s t r u e
never_together (x ∷ xs) s t r u e a b =
    let q = never_short s t r u e x a.0 a.1 b.0 b.1 in
    together_next s t x xs q
    (never_together xs (call s x).left (call t x).left (reached_call s r x) (reached_call t u x) (alike_next s t (reached_kept s r) (reached_kept t u) e x q) a.2 b.2)

-- ---- an open at the n reached

as_opened : (s : State) (h : Reached s) (o : State) → Opens s.round.master_key s.round.k s.round.n o → AsOpened o s (said_none h.calls h.answers)
as_opened s h o q =
    let mine = reached_anew s h in
    let new = open_list_anew s.round.master_key s.round.k s.round.n o q in
    let x = open_list s.round.master_key s.round.k s.round.n o q in
    let same : listed (reservoir_of s.round) s.list ≡ listed (reservoir_of o.round) o.list =
    mine.listed_is ∙ (λ i. opening (sym x.0.key_is i) (sym x.0.k_is i) (sym x.0.n_is i)) ∙ sym new.listed_is in
    record {
      key = sym x.0.key_is;
      k = sym x.0.k_is;
      n = sym x.0.n_is;
      layer = mine.layer_is ∙ (λ i. cond (said_none h.calls h.answers) 14 (layer_of (sym x.0.n_is i))) ∙ ap (cond (said_none h.calls h.answers) 14) (sym new.layer_is);
      used = sym (used_is (reservoir_of s.round) s.list (reached_kept s h).list) ∙ ap length same ∙ used_is (reservoir_of o.round) o.list x.0.kept;
      listed = same;
      no_slot = x.1;
    }

just_opened : (key k n : ℕ) (s t : State) → Opens key k n s → Opens key k n t → Alike s t
just_opened key k n s t a b =
    let four : SameFour (first_ledger key k n) (first_ledger key k n) = record { key = refl; k = refl; n = refl; set = λ x. refl } in
    shown_alike s t (first_ledger key k n) (first_ledger key k n) (open_shows key k n s a) (open_shows key k n t b) four

-- THE THEOREM
pub fleet : Fleet
fleet = record {
  same_answers = λ s t r u e l b calls. same_after s t calls (same_together calls s t r u e l b);
  never_parted = λ s t r u e calls a b. same_after s t calls (never_together calls s t r u e a b);
  opened_anew = as_opened;
  opened_alike = just_opened;
}
