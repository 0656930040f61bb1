-- The forms of a call and its model: each form is the model's call, the model's call is one so made, and a refusal changes nothing, on any
-- record, list and table.
-- Assumes nothing.
use mathlib.Core.Path.{◌≡◌, refl, sym, ap, ◌∙◌}
use mathlib.Core.Bool.{true}
use mathlib.Core.List.{List, [], ◌∷◌}
use mathlib.Core.Option.{Option, none, some}
use Prim.Native.Nat.{ℕ}
use borrow.Author.Tests.{eqb-true}
use lib.Dec.{eqb}
use Rattle.std.proofs.Math.Path.{subst₂}
use Rattle.std.specs.Prelude.{Result, Ok, Err}
use Rattle.std.specs.Prelude as rust
use Rattle.answers.specs.declared.Refusal.{Refusal}
use Rattle.answers.specs.Refusals.{number, answer_of}
use Rattle.answers.proofs.BackLaws.{refusal_of, refusal_back, back, back_answer}
use Rattle.answers.specs.Answers.{Answer, refusal, result, map_answer, After, after}
use Rattle.lists.specs.Lists.{every}
use Rattle.answers.specs.Refusing.{Spares}
use Rattle.lists.proofs.Tests.{by_cond}
use Rattle.answers.proofs.Spared.{every_has, spared_same, spared_mapped}
use Rattle.orders.specs.declared.consistent_reservoir.Exchange.{Exchange}
use Rattle.orders.specs.ReservoirCalls.{answer_of_exchange}
use Rattle.rounds.specs.declared.round.Round.{Round}
use Rattle.rounds.specs.Rounds.{State, state, fitting, admit_call, join_call, withdraw_call}
use Rattle.rounds.specs.Ledgers.{Call, admit, join, withdraw, exchanged}
use Rattle.rounds.specs.Histories.{slot_said, nothing_said, Made, admit_returned, join_returned, withdraw_returned, admit_left, join_left, withdraw_left, AllMade, made_none, made_next, valued, call, after_all, all_said}
use Rattle.rounds.specs.RefusedBy.{admit_refusals, join_refusals, withdraw_refusals}
use Rattle.rounds.proofs.RefusedLaws.{admit_refuses, join_refuses, withdraw_refuses}

-- ---- what is left behind the reference is what is returned

-- an exchange, back from what it tells
unfoldable back_exchange : Answer (Option (ℕ × ℕ)) → Result (rust.Option Exchange) Refusal
back_exchange (refusal w) = Err (refusal_of w)
back_exchange (result none) = Ok rust.None
back_exchange (result (some p)) = Ok (rust.Some (record { enters = p.0; leaves = p.1 }))

back_exchange_lem : (e : Result (rust.Option Exchange) Refusal) → back_exchange (answer_of_exchange e) ≡ e
unfolding back_exchange
back_exchange_lem (Ok (rust.Some e)) = refl
back_exchange_lem (Ok rust.None) = refl
back_exchange_lem (Err w) = ap Err (refusal_back w)

-- Two calls by one model on one state: the same answer, and the same record, list and table. By value it answers x and returns s; on
-- the lent record it answers y and leaves t.
same_call : {A X : Type 0} (answer_of : X → Answer A) (back : Answer A → X) → ((x : X) → back (answer_of x) ≡ x) → (a : After State A) (x y : X) (s t : State)
    → after (answer_of x) s ≡ a → after (answer_of y) t ≡ a → (y ≡ x) × (t ≡ s)
same_call answer_of back is a x y s t p q =
    let e : after (answer_of y) t ≡ after (answer_of x) s = q ∙ sym p in
    (sym (is y) ∙ ap (λ (b : After State _). back b.answer) e ∙ is x, ap (λ (b : After State _). b.left) e)

pub same_admit : (s : State) (a : Round × Result (rust.Option Exchange) Refusal) (l : List ℕ) (e : Result (rust.Option Exchange) Refusal) (r : Round) (l' : List ℕ)
    → after (answer_of_exchange a.1) (state a.0 l s.table) ≡ admit_call s → after (answer_of_exchange e) (state r l' s.table) ≡ admit_call s
    → (e ≡ a.1) × (state r l' s.table ≡ state a.0 l s.table)
same_admit s a l e r l' = same_call answer_of_exchange back_exchange back_exchange_lem (admit_call s) a.1 e (state a.0 l s.table) (state r l' s.table)

pub same_join : (s : State) (a : Round × Result ℕ Refusal) (t : List ℕ) (y : Result ℕ Refusal) (r : Round) (t' : List ℕ)
    → after (answer_of a.1) (state a.0 s.list t) ≡ join_call s → after (answer_of y) (state r s.list t') ≡ join_call s
    → (y ≡ a.1) × (state r s.list t' ≡ state a.0 s.list t)
same_join s a t y r t' = same_call answer_of back back_answer (join_call s) a.1 y (state a.0 s.list t) (state r s.list t')

pub same_withdraw : (s : State) (x : ℕ) (a : Round × Result (Unit {0}) Refusal) (t : List ℕ) (o : Result (Unit {0}) Refusal) (r : Round) (t' : List ℕ)
    → after (answer_of a.1) (state a.0 s.list t) ≡ withdraw_call s x → after (answer_of o) (state r s.list t') ≡ withdraw_call s x
    → (o ≡ a.1) × (state r s.list t' ≡ state a.0 s.list t)
same_withdraw s x a t o r t' = same_call answer_of back back_answer (withdraw_call s x) a.1 o (state a.0 s.list t) (state r s.list t')

-- ---- a call so made is the model's
pub made_is : {s t : State} {x : Call} {w : Answer (List ℕ)} → Made s x w t → after w t ≡ call s x
unfolding call
made_is (admit_returned a l e) = ap (valued exchanged) e
made_is (join_returned a t e) = ap (valued slot_said) e
made_is (withdraw_returned x a t e) = ap (valued nothing_said) e
made_is (admit_left e r l q) = ap (valued exchanged) q
made_is (join_left y r t q) = ap (valued slot_said) q
made_is (withdraw_left x o r t q) = ap (valued nothing_said) q

-- ---- the models' calls are calls so made

-- all that the six forms say is what the models say
pub all_made : {s t : State} {xs : List Call} {ws : List (Answer (List ℕ))} → AllMade s xs ws t → (ws ≡ all_said s xs) × (t ≡ after_all s xs)
unfolding all_said after_all
all_made (made_none s) = (refl, refl)
all_made (made_next {s = s} {x = x} {xs = xs} m ms) =
    let e = made_is m in
    let rest = all_made ms in
    ((λ i. (e i).answer ∷ (rest.0 ∙ ap (λ (a : After State (List ℕ)). all_said a.left xs) e) i), rest.1 ∙ ap (λ (a : After State (List ℕ)). after_all a.left xs) e)

-- where a refusal has one of the documents' numbers, an answer is told back
abbrev pub Numbered : {A : Type 0} → Answer A → Type 0
Numbered (refusal c) = number (refusal_of c) ≡ c
Numbered (result x) = Unit {0}

pub answer_back : {A : Type 0} (w : Answer A) → Numbered w → w ≡ answer_of (back w)
unfolding back
answer_back (refusal c) h = ap refusal (sym h)
answer_back (result x) h = refl

exchange_answer_back : (w : Answer (Option (ℕ × ℕ))) → Numbered w → w ≡ answer_of_exchange (back_exchange w)
unfolding back_exchange
exchange_answer_back (refusal c) h = ap refusal (sym h)
exchange_answer_back (result none) h = refl
exchange_answer_back (result (some p)) h = refl

-- the refusals of the calls have such numbers
pub numbered : {A M : Type 0} (ws : List ℕ) (t : Answer A) (before now : M) → every (λ w. eqb (number (refusal_of w)) w) ws ≡ true → Spares ws t before now → Numbered t
numbered ws (refusal c) before now e s = eqb-true (number (refusal_of c)) c (every_has (λ w. eqb (number (refusal_of w)) w) ws e c s.0)
numbered ws (result x) before now e s = tt

module _ (s : State) where
  admit_made : (e : Result (rust.Option Exchange) Refusal) → (admit_call s).answer ≡ answer_of_exchange e → Made s admit (call s admit).answer (call s admit).left
  unfolding call admit_call
  admit_made e q =
      let a = (admit_call s).left in
      let t : state a.round a.list s.table ≡ a = ap (state a.round a.list) (by_cond (λ (b : After State (Option (ℕ × ℕ))). s.table ≡ b.left.table) (fitting s) _ _ (λ y. refl) (λ n. refl)) in
      subst₂ (Made s admit) (ap (map_answer exchanged) (sym q)) t (admit_left e a.round a.list (λ i. after (sym q i) (t i)))

  join_made : (y : Result ℕ Refusal) → (join_call s).answer ≡ answer_of y → Made s join (call s join).answer (call s join).left
  unfolding call join_call
  join_made y q =
      let a = (join_call s).left in
      let t : state a.round s.list a.table ≡ a = ap (λ (l : List ℕ). state a.round l a.table) (by_cond (λ (b : After State ℕ). s.list ≡ b.left.list) (fitting s) _ _ (λ y. refl) (λ n. refl)) in
      subst₂ (Made s join) (ap (map_answer slot_said) (sym q)) t (join_left y a.round a.table (λ i. after (sym q i) (t i)))

  withdraw_made : (x : ℕ) (o : Result (Unit {0}) Refusal) → (withdraw_call s x).answer ≡ answer_of o → Made s (withdraw x) (call s (withdraw x)).answer (call s (withdraw x)).left
  unfolding call withdraw_call
  withdraw_made x o q =
      let a = (withdraw_call s x).left in
      let t : state a.round s.list a.table ≡ a = ap (λ (l : List ℕ). state a.round l a.table) (by_cond (λ (b : After State (Unit {0})). s.list ≡ b.left.list) (fitting s) _ _ (λ y. refl) (λ n. refl)) in
      subst₂ (Made s (withdraw x)) (ap (map_answer nothing_said) (sym q)) t (withdraw_left x o a.round a.table (λ i. after (sym q i) (t i)))

-- the model's call on any round
pub call_made : (s : State) (x : Call) → Made s x (call s x).answer (call s x).left
unfolding call every refusal_of
call_made s admit =
    let a = admit_call s in
    admit_made s (back_exchange a.answer) (exchange_answer_back a.answer (numbered admit_refusals a.answer s a.left refl (admit_refuses s)))
call_made s join =
    let a = join_call s in
    join_made s (back a.answer) (answer_back a.answer (numbered join_refusals a.answer s a.left refl (join_refuses s)))
call_made s (withdraw x) =
    let a = withdraw_call s x in
    withdraw_made s x (back a.answer) (answer_back a.answer (numbered withdraw_refusals a.answer s a.left refl (withdraw_refuses s x)))

pub calls_made : (calls : List Call) (s : State) → AllMade s calls (all_said s calls) (after_all s calls)
unfolding all_said after_all
calls_made [] s = made_none s
calls_made (x ∷ xs) s = made_next (call_made s x) (calls_made xs (call s x).left)

-- ---- a refusal changes nothing

-- the values of an answer make no other refusal
values_spared : {A : Type 0} (f : A → List ℕ) (ws : List ℕ) (a : After State A) (s : State) (w : ℕ) → Spares ws a.answer s a.left → (valued f a).answer ≡ refusal w → a.left ≡ s
values_spared f ws a s w p e = spared_same ws (map_answer f a.answer) s a.left w (spared_mapped f ws a.answer s a.left p) e

call_unchanged : (s : State) (x : Call) (w : ℕ) → (call s x).answer ≡ refusal w → (call s x).left ≡ s
unfolding call
call_unchanged s admit w e = values_spared exchanged admit_refusals (admit_call s) s w (admit_refuses s) e
call_unchanged s join w e = values_spared slot_said join_refusals (join_call s) s w (join_refuses s) e
call_unchanged s (withdraw x) w e = values_spared nothing_said withdraw_refusals (withdraw_call s x) s w (withdraw_refuses s x) e

pub refused_unchanged : {s t : State} {x : Call} {w : ℕ} → Made s x (refusal w) t → t ≡ s
refused_unchanged {s} {t} {x} {w} m =
    let e = made_is m in
    ap (λ (a : After State (List ℕ)). a.left) e ∙ call_unchanged s x w (sym (ap (λ (a : After State (List ℕ)). a.answer) e))
