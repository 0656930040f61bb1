-- Of the rounds reached: the same four facts, the same plan; refusal 11; and what a withdraw, a join and an admit move.
-- Assumes nothing.
use mathlib.Core.Path.{◌≡◌, refl, sym, ap, subst, ◌∙◌}
use mathlib.Core.Logic.{◌⊎◌, inl, inr, ⊎_elim, ◌≢◌}
use mathlib.Core.Bool.{Bool, true, false, true≢false, cond}
use mathlib.Core.List.{List, [], ◌∷◌, map}
use mathlib.Core.Option.{Option, none, some}
use Prim.Native.Nat.{ℕ}
use native.Mathlib.Omega.{arith}
use borrow.Author.Tests.{ne_eqb}
use lib.ListN.{length, take}
use Rattle.answers.specs.Answers.{Answer, refusal, result}
use Rattle.lists.specs.Lists.{has, without, Exchanges}
use Rattle.answers.proofs.AnswerLaws.{not_said}
use Rattle.lists.proofs.Tests.{by_test, by_same}
use Rattle.lists.proofs.Members.{has_no}
use Rattle.lists.proofs.Having.{has_head, has_more, has_others}
use Rattle.orders.specs.Orders.{P}
use Rattle.orders.specs.Reservoirs.{due, kth, in_and_out, n_after}
use Rattle.orders.proofs.ReservoirLaws.{sample_is}
use Rattle.orders.proofs.AdmissionLaws.{admit_exchange}
use Rattle.choosers.specs.Slots.{active}
use Rattle.choosers.proofs.SlotLaws.{has_actives, slot_out, slot_put}
use Rattle.rounds.specs.Locations.{state_of, slot_of}
use Rattle.rounds.specs.Rounds.{reservoir_of, State}
use Rattle.rounds.specs.Ledgers.{Call, admit, join, withdraw, Ledger, free_slot, due_in, accept, exchanged, answer, Sheet, sheet, plan_from}
use Rattle.rounds.specs.Plans.{sampled, shown_plan}
use Rattle.rounds.specs.Histories.{Made}
use Rattle.rounds.specs.Demand3.{Reached, PlanOf, terminal, Moves, Alike, SampleMoves}
use Rattle.lists.proofs.Sets.{Same}
use Rattle.rounds.proofs.RoundLaws.{Kept, actives_of, shown, Shows, shows_own}
use Rattle.rounds.proofs.StepLaws.{Follows}
use Rattle.rounds.proofs.MadeLaws.{made_step, reached_kept}
use Rattle.rounds.proofs.LedgerLaws.{slot_in, plan_of_same, terminal_is}
use Rattle.rounds.proofs.PlanLaws.{own_plan}

-- ---- a round so reached

-- its plan is by its key, k, n and active slots
abbrev pub plan_by : State → List ℕ → Answer (List Sheet)
plan_by s A = plan_from s.round.master_key s.round.k s.round.n A

pub plan_by_lem : (s : State) → Kept s → (p : Answer (List Sheet)) → PlanOf s p → p ≡ plan_by s (actives_of s)
plan_by_lem s kept p h = sym h.is ∙ ap (shown_plan s.round.k) h.promise ∙ own_plan s kept h.ls h.ts h.places h.enough

-- "Rounds so reached and alike in these four have the same plan."
pub same_plan : (s t : State) → Reached s → Reached t → Alike s t → (p q : Answer (List Sheet)) → PlanOf s p → PlanOf t q → p ≡ q
same_plan s t r u e p q hp hq =
    let set : Same (actives_of s) (actives_of t) = (λ x. has_actives s.table s.round.total x ∙ e.active x ∙ sym (has_actives t.table t.round.total x)) in
    plan_by_lem s (reached_kept s r) p hp
    ∙ (λ i. plan_from (e.key i) (e.k i) (e.n i) (actives_of s))
    ∙ plan_of_same t.round.master_key t.round.k t.round.n (actives_of s) (actives_of t) set
    ∙ sym (plan_by_lem t (reached_kept t u) q hq)

-- "It is refusal 11 exactly when none is active."
eleven : (key k n : ℕ) (A : List ℕ) → plan_from key k n A ≡ refusal 11 → Same A []
unfolding plan_from
eleven key k n [] e = λ x. refl
eleven key k n (a ∷ A) e =
    let z : result (map (λ x. sheet x (slot_of key x (a ∷ A))) (take k (P key n))) ≡ refusal 11 = rw (ne_eqb (length (a ∷ A)) 0 (λ z. omega arith)) at e in
    not_said 11 (map (λ x. sheet x (slot_of key x (a ∷ A))) (take k (P key n))) (sym z)

pub eleven_none : (s : State) → Reached s → (p : Answer (List Sheet)) → PlanOf s p → p ≡ refusal 11 → (x : ℕ) → active s.table s.round.total x ≡ false
eleven_none s r p h e x =
    sym (has_actives s.table s.round.total x)
    ∙ eleven s.round.master_key s.round.k s.round.n (actives_of s) (sym (plan_by_lem s (reached_kept s r) p h) ∙ e) x
    ∙ has_no x [] refl

pub none_eleven : (s : State) → Reached s → (p : Answer (List Sheet)) → PlanOf s p → ((x : ℕ) → active s.table s.round.total x ≡ false) → p ≡ refusal 11
unfolding plan_from
none_eleven s r p h none_active =
    plan_by_lem s (reached_kept s r) p h
    ∙ plan_of_same s.round.master_key s.round.k s.round.n (actives_of s) []
    (λ x. has_actives s.table s.round.total x ∙ none_active x ∙ sym (has_no x [] refl))

-- ---- what an accepted call leaves

one_value : (x y : ℕ) → x ∷ [] ≡ y ∷ [] → x ≡ y
one_value x y e = cc

-- an accepted call of a kept round: what it says is the ledger's, and the round after it shows the ledger's
record Accepted (s : State) (x : Call) (vs : List ℕ) (t : State) : Type 0 where
  values : vs ≡ answer (shown s (actives_of s)) x
  shows : Shows t (accept (shown s (actives_of s)) x)

accepted : (s t : State) → Kept s → (x : Call) (vs : List ℕ) → Made s x (result vs) t → Accepted s x vs t
accepted s t kept x vs m =
    let f : Follows (shown s (actives_of s)) x (result vs) t = made_step (shown s (actives_of s)) (shows_own s kept) m in
    record { values = f.0; shows = f.1 }

-- the plan of a round that shows a ledger
pub plan_shown : (s : State) (g : Ledger) → Shows s g → (p : Answer (List Sheet)) → PlanOf s p → p ≡ plan_from g.key g.k g.n g.A
plan_shown s g h p hp =
    plan_by_lem s h.kept p hp
    ∙ plan_of_same s.round.master_key s.round.k s.round.n (actives_of s) g.A h.set
    ∙ ap (λ (z : Ledger). plan_from z.key z.k z.n z.A) h.numbers

-- by cases: the terminal is x or not
by_some : {C : Type 0} (o : Option ℕ) (x : ℕ) → (o ≡ some x → C) → (o ≢ some x → C) → C
by_some none x f g = g (λ e. let z : true ≡ false = cc in true≢false z)
by_some (some y) x f g = by_same y x (λ e. f (ap some e)) (λ d. g (λ e. d (let z : y ≡ x = cc in z)))

-- ---- withdraw

-- with one slot less
fewer : (key x y : ℕ) (A xs : List ℕ) → slot_in key A xs y ≢ some x → slot_in key (without x A) xs y ≡ slot_in key A xs y
unfolding slot_of
fewer key x y A xs d =
    by_test (has y xs)
    (λ h. rw h (slot_out (state_of key y) A x (λ e. d (rw h e))))
    (λ h. rw h refl)

-- "an accepted withdraw moves only the locations of the terminal withdrawn"
pub withdraw_moves : (s t : State) → Reached s → (x : ℕ) (vs : List ℕ) → Made s (withdraw x) (result vs) t
    → (p q : Answer (List Sheet)) → PlanOf s p → PlanOf t q → (y : ℕ) → Moves p q y → terminal p y ≡ some x
unfolding accept
withdraw_moves s t r x vs m p q hp hq y moves =
    let kept : Kept s = reached_kept s r in
    let key : ℕ = s.round.master_key in
    let xs : List ℕ = take s.round.k (P key s.round.n) in
    let before : terminal p y ≡ slot_in key (actives_of s) xs y = ap (λ (z : Answer (List Sheet)). terminal z y) (plan_by_lem s kept p hp) ∙ terminal_is key s.round.k s.round.n (actives_of s) y in
    let now : terminal q y ≡ slot_in key (without x (actives_of s)) xs y =
    ap (λ (z : Answer (List Sheet)). terminal z y) (plan_shown t (accept (shown s (actives_of s)) (withdraw x)) (accepted s t kept (withdraw x) vs m).shows q hq)
    ∙ terminal_is key s.round.k s.round.n (without x (actives_of s)) y in
    by_some (terminal p y) x
    (λ h. h)
    (λ d. absurd (moves (before ∙ sym (now ∙ fewer key x y (actives_of s) xs (λ z. d (before ∙ z))))))

-- ---- join

-- with one slot more
more : (key x y : ℕ) (A xs : List ℕ) → (slot_in key (x ∷ A) xs y ≡ slot_in key A xs y) ⊎ (slot_in key (x ∷ A) xs y ≡ some x)
unfolding slot_of
more key x y A xs =
    by_test (has y xs)
    (λ h. rw h (slot_put (state_of key y) A x))
    (λ h. rw h (inl refl))

-- "an accepted join moves locations only to the joiner"
pub join_moves : (s t : State) → Reached s → (x : ℕ) → Made s join (result (x ∷ [])) t
    → (p q : Answer (List Sheet)) → PlanOf s p → PlanOf t q → (y : ℕ) → Moves p q y → terminal q y ≡ some x
unfolding accept answer
join_moves s t r x m p q hp hq y moves =
    let kept : Kept s = reached_kept s r in
    let a : Accepted s join (x ∷ []) t = accepted s t kept join (x ∷ []) m in
    let key : ℕ = s.round.master_key in
    let xs : List ℕ = take s.round.k (P key s.round.n) in
    let free : ℕ = free_slot (shown s (actives_of s)) in
    let is_free : x ≡ free = one_value x free a.values in
    let before : terminal p y ≡ slot_in key (actives_of s) xs y = ap (λ (z : Answer (List Sheet)). terminal z y) (plan_by_lem s kept p hp) ∙ terminal_is key s.round.k s.round.n (actives_of s) y in
    let now : terminal q y ≡ slot_in key (free ∷ actives_of s) xs y =
    ap (λ (z : Answer (List Sheet)). terminal z y) (plan_shown t (accept (shown s (actives_of s)) join) a.shows q hq)
    ∙ terminal_is key s.round.k s.round.n (free ∷ actives_of s) y in
    ⊎_elim
    (λ (h : slot_in key (free ∷ actives_of s) xs y ≡ slot_in key (actives_of s) xs y). absurd (moves (before ∙ sym (now ∙ h))))
    (λ (h : slot_in key (free ∷ actives_of s) xs y ≡ some free). now ∙ h ∙ ap some (sym is_free))
    (more key free y (actives_of s) xs)

-- ---- admit

sampled_is : (s : State) → Kept s → sampled s ≡ take s.round.k (P s.round.master_key s.round.n)
sampled_is s kept = sample_is (reservoir_of s.round) s.list kept.list

-- by the number that is due
exchanges : (s t : State) → Kept s → Kept t → t.round.master_key ≡ s.round.master_key → t.round.k ≡ s.round.k
    → (o : Option ℕ) → due s.round.master_key s.round.k s.round.n ≡ o → t.round.n ≡ n_after s.round.n o
    → SampleMoves (sampled s) (sampled t) (exchanged (in_and_out s.round.master_key s.round.k s.round.n o))
exchanges s t ks kt ekey ek none d en =
    inl (refl, sampled_is t kt ∙ (λ i. take (ek i) (P (ekey i) (en i))) ∙ sym (sampled_is s ks))
exchanges s t ks kt ekey ek (some v) d en =
    inr (
      v,
      kth s.round.master_key s.round.k s.round.n,
      refl,
      admit_exchange (reservoir_of s.round) s.list ks.list (reservoir_of t.round) t.list kt.list ekey ek v d en,
    )

-- "An admit changes the sample by exactly the two locations it names, one out and one in, or not at all"; "relative order"
pub admit_samples : (s t : State) → Reached s → (vs : List ℕ) → Made s admit (result vs) t → SampleMoves (sampled s) (sampled t) vs
unfolding accept answer
admit_samples s t r vs m =
    let kept : Kept s = reached_kept s r in
    let a : Accepted s admit vs t = accepted s t kept admit vs m in
    let n : Shows t (accept (shown s (actives_of s)) admit) = a.shows in
    subst (λ (ws : List ℕ). SampleMoves (sampled s) (sampled t) ws) (sym a.values)
    (exchanges s t kept n.kept (ap (λ (z : Ledger). z.key) n.numbers) (ap (λ (z : Ledger). z.k) n.numbers) (due_in (shown s (actives_of s))) refl (ap (λ (z : Ledger). z.n) n.numbers))

-- what is in one sample and is not exchanged is in the other
stays : (l l' vs : List ℕ) → SampleMoves l l' vs → (y : ℕ) → has y vs ≡ false → has y l' ≡ has y l
stays l l' vs h y out =
    ⊎_elim
    (λ (m : (vs ≡ []) × (l' ≡ l)). ap (has y) m.1)
    (λ (m : (v : ℕ) × (o : ℕ) × (vs ≡ v ∷ o ∷ []) × Exchanges l l' v o).
    let v : ℕ = m.0 in
    let o : ℕ = m.1 in
    let off : has y (v ∷ o ∷ []) ≡ false = ap (has y) (sym m.2) ∙ out in
    let not-v : y ≢ v = (λ e. true≢false (sym (ap (λ (z : ℕ). has z (v ∷ o ∷ [])) e ∙ has_head v (o ∷ [])) ∙ off)) in
    let not-o : y ≢ o = (λ e. true≢false (sym (ap (λ (z : ℕ). has z (v ∷ o ∷ [])) e ∙ has_more o v (o ∷ []) (has_head o [])) ∙ off)) in
    sym (has_others y v l' not-v) ∙ ap (has y) m.3.others ∙ has_others y o l not-o)
    h

-- "the others keep terminal": only the locations that it names move
pub admit_moves : (s t : State) → Reached s → (vs : List ℕ) → Made s admit (result vs) t
    → (p q : Answer (List Sheet)) → PlanOf s p → PlanOf t q → (y : ℕ) → Moves p q y → has y vs ≡ true
unfolding accept
admit_moves s t r vs m p q hp hq y moves =
    let kept : Kept s = reached_kept s r in
    let a : Accepted s admit vs t = accepted s t kept admit vs m in
    let n : Shows t (accept (shown s (actives_of s)) admit) = a.shows in
    let key : ℕ = s.round.master_key in
    let same_key : t.round.master_key ≡ key = ap (λ (z : Ledger). z.key) n.numbers in
    let before : terminal p y ≡ slot_in key (actives_of s) (sampled s) y =
    ap (λ (z : Answer (List Sheet)). terminal z y) (plan_by_lem s kept p hp) ∙ terminal_is key s.round.k s.round.n (actives_of s) y
    ∙ ap (λ (xs : List ℕ). slot_in key (actives_of s) xs y) (sym (sampled_is s kept)) in
    let now : terminal q y ≡ slot_in key (actives_of s) (sampled t) y =
    ap (λ (z : Answer (List Sheet)). terminal z y) (plan_by_lem t n.kept q hq ∙ plan_of_same t.round.master_key t.round.k t.round.n (actives_of t) (actives_of s) n.set)
    ∙ terminal_is t.round.master_key t.round.k t.round.n (actives_of s) y
    ∙ (λ i. slot_in (same_key i) (actives_of s) (sym (sampled_is t n.kept) i) y) in
    by_test (has y vs)
    (λ h. h)
    (λ h. absurd (moves (before ∙ sym (now ∙ ap (λ (b : Bool). cond b (slot_of key y (actives_of s)) none) (stays (sampled s) (sampled t) vs (admit_samples s t r vs m) y h)))))
