-- What each call of a kept round does: it is refused for want of room, with its one number, and changes nothing; or it answers as
-- the ledger does, and the round after it shows the ledger after it.
-- Assumes nothing.
use mathlib.Core.Path.{◌≡◌, refl, sym, ap, subst, ◌∙◌}
use mathlib.Core.Bool.{Bool, true, false, true≢false, cond, not}
use mathlib.Core.Logic.{◌⊎◌, inl, inr, ⊎_elim}
use mathlib.Core.List.{List, [], ◌∷◌}
use mathlib.Core.Option.{Option, get_or}
use Prim.Native.Nat.{ℕ, ◌+◌, ◌-◌, ◌≤◌, ◌<◌, min, max}
use native.Mathlib.Omega.{arith}
use borrow.Author.Tests.{eq-eqb, ne_eqb}
use lib.Dec.{eqb}
use lib.ListN.{length}
use Rattle.answers.specs.Answers.{Answer, result, map_answer, is_refusal, After, refused}
use Rattle.lists.specs.Lists.{has, without}
use Rattle.answers.proofs.AnswerLaws.{not_said}
use Rattle.lists.proofs.Tests.{by_test, by_below, by_same, by_cond}
use Rattle.lists.proofs.Searching.{first_same}
use Rattle.orders.specs.ReservoirCalls as Reservoir
use Rattle.orders.proofs.MemoryLaws.{admit_length}
use Rattle.orders.specs.Admissions.{Short, Admits}
use Rattle.orders.specs.ReservoirCalls.{ReservoirState}
use Rattle.orders.proofs.AdmissionLaws.{admit_kept}
use Rattle.choosers.specs.declared.node_map.ConsistentNodeMap.{ConsistentNodeMap}
use Rattle.choosers.specs.Slots.{active, vacant}
use Rattle.choosers.specs.SlotCalls as Slots
use Rattle.choosers.specs.SlotCalls.{SlotState}
use Rattle.choosers.proofs.SlotCallLaws.{remove_none}
use Rattle.choosers.proofs.SlotLaws.{has_actives}
use Rattle.choosers.proofs.AddLaws.{vacant_le, vacant_outside, add_room, add_no_room, add_actives, add_count, add_fits, add_bytes}
use Rattle.choosers.proofs.RemoveLaws.{remove_active, remove_actives, remove_count, remove_fits, remove_bytes}
use Rattle.rounds.specs.Rounds.{reservoir_of, map_of, State, fitting, by_reservoir, by_slots, admit_call, join_call, withdraw_call}
use Rattle.rounds.specs.Ledgers.{Call, admit, join, withdraw, Ledger, ledger, free_slot, accept, exchanged, answer, fed}
use Rattle.rounds.specs.Histories.{slot_said, nothing_said, valued, call}
use Rattle.rounds.specs.Demand3.{agrees}
use Rattle.lists.proofs.Sets.{Same, same_put, same_without}
use Rattle.rounds.proofs.RoundLaws.{Kept, actives_of, shown, Shows, fits_kept}

-- ---- what a call may leave

-- the one refusal that a call of a kept round may get,
abbrev pub possible : Call → ℕ
possible admit = 4
possible join = 9
possible (withdraw x) = 10

-- and when it gets it: a location is due and the list too short for it; no slot is free below the table's length and 65,536; the
-- slot is not active
abbrev pub NoRoom : State → Ledger → Call → Type 0
NoRoom s g admit = Short (reservoir_of s.round) s.list (Reservoir.admit_call (reservoir_of s.round) s.list)
NoRoom s g join = min (length s.table) Slots.slot_limit ≤ free_slot g
NoRoom s g (withdraw x) = has x g.A ≡ false

pub record Refuses (s : State) (g : Ledger) (x : Call) (a : After State (List ℕ)) : Type 0 where
  pub no_room : NoRoom s g x
  pub is : a ≡ refused (possible x) s

pub record Takes (s : State) (g : Ledger) (x : Call) (a : After State (List ℕ)) : Type 0 where
  pub room : NoRoom s g x → ⊥
  pub answer_is : a.answer ≡ result (answer g x)
  pub shows : Shows a.left (accept g x)

abbrev pub Outcome : State → Ledger → Call → After State (List ℕ) → Type 0
Outcome s g x a = Refuses s g x a ⊎ Takes s g x a

-- a fitting round's call is that of its part
pub through : {A : Type 0} (Q : After State (List ℕ) → Type 0) (f : A → List ℕ) (b : Bool) (x y : After State A) → b ≡ true → Q (valued f x) → Q (valued f (cond b x y))
through Q f b x y e q = subst (λ (c : Bool). Q (valued f (cond c x y))) (sym e) q

-- ---- the calls

module _ (s : State) (A : List ℕ) (set : Same (actives_of s) A) (kept : Kept s) where
  abbrev g : Ledger
  g = shown s A

  -- ---- admit

  admit_takes : Admits (reservoir_of s.round) (Reservoir.admit_call (reservoir_of s.round) s.list)
      → Takes s g admit (valued exchanged (by_reservoir s (Reservoir.admit_call (reservoir_of s.round) s.list)))
  unfolding accept answer
  admit_takes m = record {
    room = λ (h : Short (reservoir_of s.round) s.list (Reservoir.admit_call (reservoir_of s.round) s.list)).
        not_said 4 _ (sym (ap (λ (a : After ReservoirState (Option (ℕ × ℕ))). a.answer) h.is_refused) ∙ m.answer_is);
    answer_is = ap (map_answer exchanged) m.answer_is;
    shows = record {
      numbers = λ i. ledger (m.key_is i) (m.k_is i) (m.n_is i) A s.round.total;
      set = set;
      kept = record { list = m.kept; table = kept.table };
    };
  }

  admit_outcome : Outcome s g admit (call s admit)
  unfolding call admit_call
  admit_outcome =
      through (Outcome s g admit) exchanged (fitting s) (by_reservoir s (Reservoir.admit_call (reservoir_of s.round) s.list)) (refused 12 s) (fits_kept s kept)
      (⊎_elim
      (λ (h : Short (reservoir_of s.round) s.list (Reservoir.admit_call (reservoir_of s.round) s.list)).
      inl (record { no_room = h; is = ap (λ (a : After ReservoirState (Option (ℕ × ℕ))). valued exchanged (by_reservoir s a)) h.is_refused }))
      (λ (h : Admits (reservoir_of s.round) (Reservoir.admit_call (reservoir_of s.round) s.list)). inr (admit_takes h))
      (admit_kept (reservoir_of s.round) s.list kept.list))

  -- ---- join

  abbrev m : ConsistentNodeMap
  m = map_of s.round

  abbrev v : ℕ
  v = vacant s.table s.round.total

  -- the lowest deleted slot is the lowest below the count outside A
  vacant_free : v ≡ free_slot g
  unfolding free_slot
  vacant_free =
      vacant_outside m s.table kept.table
      ∙ ap (λ (o : Option ℕ). get_or o s.round.total)
      (first_same (λ x. not (has x (actives_of s))) (λ x. not (has x A)) 0 s.round.total (λ x a b. ap not (set x)))

  count_up : max s.round.total (v + 1) ≡ cond (eqb (free_slot g) s.round.total) (s.round.total + 1) s.round.total
  count_up =
      rw (← vacant_free)
      (by_same v s.round.total
      (λ e. rw (eq-eqb v s.round.total e) (omega arith))
      (λ d. rw (ne_eqb v s.round.total d) (omega (arith, vacant_le s.table s.round.total))))

  join_takes : v < min (length s.table) Slots.slot_limit → Takes s g join (valued slot_said (by_slots s (Slots.add_call m s.table)))
  unfolding accept answer
  join_takes r =
      let e : (Slots.add_call m s.table).answer ≡ result v = add_room m s.table kept.table r in
      record {
        room = λ h. omega (arith, h, vacant_free);
        answer_is = ap (map_answer slot_said) e ∙ ap (λ (x : ℕ). result (x ∷ [])) vacant_free;
        shows = record {
          numbers = λ i. ledger g.key g.k g.n (free_slot g ∷ A) ((add_count m s.table v e ∙ count_up) i);
          set = λ x. add_actives m s.table v e x ∙ same_put v (actives_of s) A set x ∙ ap (λ (y : ℕ). has x (y ∷ A)) vacant_free;
          kept = record { list = kept.list; table = add_fits m s.table kept.table };
        };
      }

  join_outcome : Outcome s g join (call s join)
  unfolding call join_call
  join_outcome =
      through (Outcome s g join) slot_said (fitting s) (by_slots s (Slots.add_call m s.table)) (refused 12 s) (fits_kept s kept)
      (by_below v (min (length s.table) Slots.slot_limit)
      (λ h. inr (join_takes h))
      (λ h. inl (record {
        no_room = rw (← vacant_free) h;
        is = ap (λ (a : After SlotState ℕ). valued slot_said (by_slots s a)) (add_no_room m s.table kept.table h);
      })))

  -- ---- withdraw

  module _ (x : ℕ) where
    count_down : cond (eqb (x + 1) s.round.total) x s.round.total ≡ cond (eqb (x + 1) s.round.total) (s.round.total - 1) s.round.total
    count_down =
        by_same (x + 1) s.round.total
        (λ e. rw (eq-eqb (x + 1) s.round.total e) (omega arith))
        (λ d. rw (ne_eqb (x + 1) s.round.total d) refl)

    withdraw_takes : active s.table s.round.total x ≡ true → Takes s g (withdraw x) (valued nothing_said (by_slots s (Slots.remove_call m s.table x)))
    unfolding accept answer
    withdraw_takes y =
        let e : (Slots.remove_call m s.table x).answer ≡ result tt = remove_active m s.table x kept.table y in
        record {
          room = λ h. true≢false (sym (sym (set x) ∙ has_actives s.table s.round.total x ∙ y) ∙ h);
          answer_is = ap (map_answer nothing_said) e;
          shows = record {
            numbers = λ i. ledger g.key g.k g.n (without x A) ((remove_count m s.table x e ∙ count_down) i);
            set = λ z. ap (has z) (remove_actives m s.table x e) ∙ same_without x (actives_of s) A set z;
            kept = record { list = kept.list; table = remove_fits m s.table x kept.table };
          };
        }

    withdraw_outcome : Outcome s g (withdraw x) (call s (withdraw x))
    unfolding call withdraw_call
    withdraw_outcome =
        through (Outcome s g (withdraw x)) nothing_said (fitting s) (by_slots s (Slots.remove_call m s.table x)) (refused 12 s) (fits_kept s kept)
        (by_test (active s.table s.round.total x)
        (λ y. inr (withdraw_takes y))
        (λ n. inl (record {
          no_room = sym (set x) ∙ has_actives s.table s.round.total x ∙ n;
          is = ap (λ (a : After SlotState (Unit {0})). valued nothing_said (by_slots s a)) (remove_none m s.table x kept.table n);
        })))

  outcome_shown : (x : Call) → Outcome s g x (call s x)
  outcome_shown admit = admit_outcome
  outcome_shown join = join_outcome
  outcome_shown (withdraw x) = withdraw_outcome x

-- the same of a round and any ledger that it shows
pub outcome : (s : State) (g : Ledger) → Shows s g → (x : Call) → Outcome s g x (call s x)
outcome s g h x = subst (λ (z : Ledger). Outcome s z x (call s x)) h.numbers (outcome_shown s g.A h.set h.kept x)

-- ---- a step: the answer is the ledger's where it is no refusal, and the round after it shows the ledger fed with it

-- what an answer w, and t after it, are to the ledger
abbrev pub Follows : Ledger → Call → Answer (List ℕ) → State → Type 0
Follows g x w t = agrees g x w × Shows t (fed g x (is_refusal w))

pub step : (s : State) (g : Ledger) → Shows s g → (x : Call) → Follows g x (call s x).answer (call s x).left
step s g h x =
    ⊎_elim
    (λ (r : Refuses s g x (call s x)). subst (λ (a : After State (List ℕ)). Follows g x a.answer a.left) (sym r.is) (tt, h))
    (λ (t : Takes s g x (call s x)). subst (λ (w : Answer (List ℕ)). Follows g x w (call s x).left) (sym t.answer_is) (refl, t.shows))
    (outcome s g h x)

-- the list and the table keep their lengths
pub step_length : (s : State) (x : Call) → length (call s x).left.list ≡ length s.list
unfolding call admit_call join_call withdraw_call
step_length s admit = by_cond (λ (a : After State (Option (ℕ × ℕ))). length a.left.list ≡ length s.list) (fitting s) _ _ (λ e. admit_length (reservoir_of s.round) s.list) (λ e. refl)
step_length s join = by_cond (λ (a : After State ℕ). length a.left.list ≡ length s.list) (fitting s) _ _ (λ e. refl) (λ e. refl)
step_length s (withdraw x) = by_cond (λ (a : After State (Unit {0})). length a.left.list ≡ length s.list) (fitting s) _ _ (λ e. refl) (λ e. refl)

pub step_bytes : (s : State) (x : Call) → length (call s x).left.table ≡ length s.table
unfolding call admit_call join_call withdraw_call
step_bytes s admit = by_cond (λ (a : After State (Option (ℕ × ℕ))). length a.left.table ≡ length s.table) (fitting s) _ _ (λ e. refl) (λ e. refl)
step_bytes s join = by_cond (λ (a : After State ℕ). length a.left.table ≡ length s.table) (fitting s) _ _ (λ e. add_bytes (map_of s.round) s.table) (λ e. refl)
step_bytes s (withdraw x) = by_cond (λ (a : After State (Unit {0})). length a.left.table ≡ length s.table) (fitting s) _ _ (λ e. remove_bytes (map_of s.round) s.table x) (λ e. refl)
