-- The plan one sheet at a time: the sheets of an accepted plan stand at its places, and a slot holds what the plan gives it: on every
-- record that fits; and by the ledger.
-- Assumes nothing.
use mathlib.Core.Path.{◌≡◌, refl, sym, ap, ◌∙◌, fun_ext}
use mathlib.Core.Bool.{Bool, true, false, ◌||◌}
use mathlib.Core.List.{List, [], ◌∷◌, map}
use mathlib.Core.Option.{Option, none, some}
use Prim.Native.Nat.{ℕ, ◌≤◌, ◌<◌, min}
use native.Mathlib.Omega.{arith}
use borrow.Author.Tests.{le-ltb, ne_eqb}
use lib.Dec.{ltb, eqb}
use lib.ListN.{length, take, get_or}
use lib.Seq.{get_or-take}
use mathlib.Core.Option as maybe
use Rattle.std.proofs.lemmas.Grind.{get_or_default_zero}
use Rattle.answers.specs.Answers.{Answer, result, After, after}
use Rattle.answers.proofs.AnswerLaws.{not_said}
use Rattle.lists.specs.Lists.{keep, zero_to, written}
use Rattle.lists.proofs.Tests.{by_test, by_cond}
use Rattle.lists.proofs.Members.{keep_none}
use Rattle.lists.proofs.Listing.{map_places}
use Rattle.orders.specs.Orders.{P}
use Rattle.orders.proofs.CheckLaws.{fits_parts}
use Rattle.orders.proofs.ReservoirLaws.{sample_is}
use Rattle.choosers.specs.SlotCalls.{slot_limit}
use Rattle.choosers.proofs.SlotLaws.{holder_slot}
use Rattle.choosers.proofs.GetLaws.{look_all}
use Rattle.rounds.specs.Locations.{state_of, slot_of}
use Rattle.rounds.specs.Rounds.{reservoir_of, map_of, State, fitting}
use Rattle.rounds.specs.Ledgers.{Ledger, Sheet, sheet, plan_from, ledger_plan}
use Rattle.rounds.specs.Plans.{sampled, terminal_of, plan_call, shown_plan, PlanLists, plan_lists}
use Rattle.rounds.specs.Sheets.{slot_for, location_at, sheet_at, is_slot, held_by, held_in, held_of}
use Rattle.rounds.specs.Demand3.{Reached, PlanOf, Enough}
use Rattle.rounds.specs.InnerRounds.{dealt_to}
use Rattle.rounds.proofs.RoundLaws.{Kept, actives_of, shown, Shows, shows_own}
use Rattle.rounds.proofs.LedgerLaws.{slot_of_none, plan_of_same}
use Rattle.rounds.proofs.PlanLaws.{shown_sheets, terminal_slot}
use Rattle.rounds.proofs.RoundCallLaws.{fits_both}
use Rattle.rounds.proofs.MadeLaws.{reached_kept}
use Rattle.rounds.proofs.MoveLaws.{plan_shown}

-- ---- any sheets

pub held_map : (x : ℕ) (f : ℕ → Option ℕ) (ys : List ℕ) → held_in x (map (λ y. sheet y (f y)) ys) ≡ keep (λ y. is_slot x (f y)) ys
unfolding held_in
held_map x f [] = refl
held_map x f (y ∷ ys) =
    by_test (is_slot x (f y))
    (λ e. rw e (ap (λ (r : List ℕ). y ∷ r) (held_map x f ys)))
    (λ e. rw e (held_map x f ys))

-- ---- a round's sheets

module _ (s : State) where
  abbrev key : ℕ
  key = s.round.master_key

  -- the slot by definition, and where none is active none
  pub slot_for_is : (x : ℕ) → slot_for s x ≡ slot_of key x (actives_of s)
  unfolding slot_for slot_of
  slot_for_is x = holder_slot (state_of key x) s.table s.round.total

  pub idle_slot : eqb (length (actives_of s)) 0 ≡ true → (x : ℕ) → slot_for s x ≡ none
  idle_slot e x = slot_for_is x ∙ go (actives_of s) e
    where
      go : (A : List ℕ) → eqb (length A) 0 ≡ true → slot_of key x A ≡ none
      go [] e = slot_of_none key x
      go (y ∷ A) e = absurd (let z : false ≡ true = sym (ne_eqb (length (y ∷ A)) 0 (λ q. omega arith)) ∙ e in cc)

  pub idle_holds : eqb (length (actives_of s)) 0 ≡ true → (x : ℕ) → held_by s x ≡ []
  unfolding held_by
  idle_holds e x = keep_none (λ y. is_slot x (slot_for s y)) (sampled s) (λ y h. ap (is_slot x) (idle_slot e y))

  -- place by place they are those of the sampled locations
  module _ (ok : fitting s ≡ true) where
    pub sampled_k : length (sampled s) ≡ s.round.k
    sampled_k = (fits_parts (reservoir_of s.round) s.list (fits_both s.round s.list s.table ok).0).sampled

    pub sheets_by_place : map (sheet_at s) (zero_to s.round.k) ≡ map (λ x. sheet x (slot_for s x)) (sampled s)
    unfolding sheet_at location_at
    sheets_by_place = ap (λ (n : ℕ). map (sheet_at s) (zero_to n)) (sym sampled_k) ∙ map_places (λ x. sheet x (slot_for s x)) (sampled s)

    -- so a slot holds what stands at the places with it
    pub held_by_place : (x : ℕ) → held_in x (map (sheet_at s) (zero_to s.round.k)) ≡ held_by s x
    unfolding held_by
    held_by_place x = ap (held_in x) sheets_by_place ∙ held_map x (slot_for s) (sampled s)

    -- the lookup as a loop makes it, with scratch enough and a slot active
    pub sheet_dealt : (places : ℕ) → min (length s.table) slot_limit ≤ places → eqb (length (actives_of s)) 0 ≡ false
        → (x : ℕ) → some (dealt_to key s.round.total s.table places x) ≡ slot_for s x
    unfolding dealt_to slot_for terminal_of
    sheet_dealt places enough active x =
        ap (λ (o : Option ℕ). some (maybe.get_or o 0)) (look_all (map_of s.round) s.table (state_of key x) places (fits_both s.round s.list s.table ok).1 enough)
        ∙ terminal_slot s active x
        ∙ sym (slot_for_is x)

    -- so what a turn of a loop over the sampled locations with their places has is the sheet at that place
    pub sheet_of_turn : (places : ℕ) → min (length s.table) slot_limit ≤ places → eqb (length (actives_of s)) 0 ≡ false
        → (p x : ℕ) → p < length (sampled s) → x ≡ get_or (sampled s) p x → sheet x (some (dealt_to key s.round.total s.table places x)) ≡ sheet_at s p
    unfolding sheet_at location_at
    sheet_of_turn places enough active p x h is =
        ap (sheet x) (sheet_dealt places enough active x)
        ∙ ap (λ (y : ℕ). sheet y (slot_for s y)) (is ∙ get_or_default_zero (sampled s) p x h)

-- ---- of a plan

-- an accepted plan's tests, and what it leaves
record Accepted (s : State) (ls ts : List ℕ) (a : After PlanLists (Unit {0})) : Type 0 where
  fits : fitting s ≡ true
  active : eqb (length (actives_of s)) 0 ≡ false
  is : a ≡ after (result tt) (plan_lists (written (sampled s) ls) (written (map (terminal_of s) (sampled s)) ts))

accepted : (s : State) (ls ts : List ℕ) (places : ℕ) → (plan_call s ls ts places).answer ≡ result tt → Accepted s ls ts (plan_call s ls ts places)
unfolding plan_call
accepted s ls ts places =
    let C : After PlanLists (Unit {0}) → Type 0 = (λ a. a.answer ≡ result tt → Accepted s ls ts a) in
    by_cond C (fitting s) _ _
    (λ f. by_cond C (ltb (length ls) s.round.k || ltb (length ts) s.round.k || ltb places (min (length s.table) slot_limit)) _ _
    (λ y e. not_said 4 tt e)
    (λ n. by_cond C (eqb (length (actives_of s)) 0) _ _
    (λ y e. not_said 11 tt e)
    (λ y e. record { fits = f; active = y; is = refl })))
    (λ f e. not_said 12 tt e)

module _ (s : State) (ls ts : List ℕ) (places : ℕ) where
  -- The sheets of an accepted plan are those at places 0..k−1.
  pub plan_sheets : (plan_call s ls ts places).answer ≡ result tt → shown_plan s.round.k (plan_call s ls ts places) ≡ result (map (sheet_at s) (zero_to s.round.k))
  plan_sheets e =
      let a = accepted s ls ts places e in
      let slots : ◌≡◌ {A = ℕ → Sheet} (λ x. sheet x (some (terminal_of s x))) (λ x. sheet x (slot_for s x)) = fun_ext (λ x. ap (sheet x) (terminal_slot s a.active x ∙ sym (slot_for_is s x))) in
      ap (shown_plan s.round.k) a.is
      ∙ shown_sheets s.round.k (terminal_of s) (sampled s) ls ts (sampled_k s a.fits)
      ∙ ap (λ (f : ℕ → Sheet). result (map f (sampled s))) slots
      ∙ ap result (sym (sheets_by_place s a.fits))

  -- A slot holds what an accepted plan gives it,
  pub plan_holds : (plan_call s ls ts places).answer ≡ result tt → (x : ℕ) → held_of (shown_plan s.round.k (plan_call s ls ts places)) x ≡ held_by s x
  unfolding held_of
  plan_holds e x = ap (λ (p : Answer (List Sheet)). held_of p x) (plan_sheets e) ∙ held_by_place s (accepted s ls ts places e).fits x

  -- and where a plan of a record that fits is refused with lists and scratch long enough, none is active and no slot holds any.
  pub held_plan : fitting s ≡ true → Enough s.round.k (length s.table) ls ts places → (x : ℕ) → held_of (shown_plan s.round.k (plan_call s ls ts places)) x ≡ held_by s x
  unfolding held_of plan_call shown_plan
  held_plan ok enough x =
      by_test (eqb (length (actives_of s)) 0)
      (λ y. rw (ok, le-ltb (length ls) s.round.k enough.locations, le-ltb (length ts) s.round.k enough.terminals, le-ltb places (min (length s.table) slot_limit) enough.scratch, y)
      (sym (idle_holds s y x)))
      (λ n. plan_holds (rw (ok, le-ltb (length ls) s.round.k enough.locations, le-ltb (length ts) s.round.k enough.terminals, le-ltb places (min (length s.table) slot_limit) enough.scratch, n) refl) x)

-- ---- by the ledger

-- what the plan of key, k, n and A gives a slot
pub held_from : (key k n x : ℕ) (A : List ℕ) → held_of (plan_from key k n A) x ≡ keep (λ y. is_slot x (slot_of key y A)) (take k (P key n))
unfolding held_of plan_from
held_from key k n x [] = sym (keep_none (λ y. is_slot x (slot_of key y [])) (take k (P key n)) (λ y h. ap (is_slot x) (slot_of_none key y)))
held_from key k n x (a ∷ A) = rw (ne_eqb (length (a ∷ A)) 0 (λ z. omega arith)) (held_map x (λ y. slot_of key y (a ∷ A)) (take k (P key n)))

module _ (s : State) (kept : Kept s) where
  -- the sheet at a place is that of P(n), with its slot by definition
  pub sheet_is : (p : ℕ) → p < s.round.k → sheet_at s p ≡ sheet (get_or (P s.round.master_key s.round.n) p 0) (slot_of s.round.master_key (get_or (P s.round.master_key s.round.n) p 0) (actives_of s))
  unfolding sheet_at location_at
  sheet_is p h =
      let x : get_or (sampled s) p 0 ≡ get_or (P s.round.master_key s.round.n) p 0 =
      ap (λ (r : List ℕ). get_or r p 0) (sample_is (reservoir_of s.round) s.list kept.list) ∙ get_or-take s.round.k (P s.round.master_key s.round.n) p 0 h in
      ap (λ (y : ℕ). sheet y (slot_for s y)) x ∙ ap (sheet (get_or (P s.round.master_key s.round.n) p 0)) (slot_for_is s _)

  held_own : (x : ℕ) → held_by s x ≡ held_of (plan_from s.round.master_key s.round.k s.round.n (actives_of s)) x
  unfolding held_by
  held_own x =
      let slots : ◌≡◌ {A = ℕ → Bool} (λ y. is_slot x (slot_for s y)) (λ y. is_slot x (slot_of s.round.master_key y (actives_of s))) = fun_ext (λ y. ap (is_slot x) (slot_for_is s y)) in
      (λ i. keep (slots i) (sample_is (reservoir_of s.round) s.list kept.list i))
      ∙ sym (held_from s.round.master_key s.round.k s.round.n x (actives_of s))

-- A slot of a round that shows a ledger holds what the ledger's plan gives it.
pub held_ledger : (s : State) (g : Ledger) → Shows s g → (x : ℕ) → held_by s x ≡ held_of (ledger_plan g) x
held_ledger s g h x =
    held_own s h.kept x
    ∙ ap (λ (p : Answer (List Sheet)). held_of p x) (plan_of_same s.round.master_key s.round.k s.round.n (actives_of s) g.A h.set)
    ∙ ap (λ (z : Ledger). held_of (ledger_plan z) x) h.numbers

-- So does a slot of a round reached, by its plan.
pub held_reached : (s : State) → Reached s → (p : Answer (List Sheet)) → PlanOf s p → (x : ℕ) → held_by s x ≡ held_of p x
held_reached s r p h x =
    let kept : Kept s = reached_kept s r in
    held_own s kept x ∙ ap (λ (q : Answer (List Sheet)). held_of q x) (sym (plan_shown s (shown s (actives_of s)) (shows_own s kept) p h))
