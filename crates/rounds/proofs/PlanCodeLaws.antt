-- What plan says and leaves, by the tests as the code makes them.
-- Assumes nothing.
use mathlib.Core.Path.{◌≡◌, sym, ap, ◌∙◌, fun_ext}
use mathlib.Core.Bool.{Bool, true, false}
use mathlib.Core.List.{List, map}
use mathlib.Core.Option.{Option, get_or}
use Prim.Native.Nat.{ℕ, ◌<◌, ◌≤◌, min}
use native.Mathlib.Omega.{arith}
use borrow.Author.Tests.{lt-ltb, le-ltb}
use lib.Dec.{eqb}
use lib.ListN.{length}
use Rattle.answers.specs.Answers.{refusal, result, after}
use Rattle.lists.specs.Lists.{written}
use Rattle.answers.proofs.AnswerLaws.{not_said, refusal_same}
use Rattle.lists.proofs.Tests.{by_test}
use Rattle.orders.specs.ReservoirCalls.{sample}
use Rattle.orders.proofs.CheckLaws.{fits_parts}
use Rattle.std.specs.Prelude.{Result, Ok, Err}
use Rattle.answers.specs.declared.Refusal.{Refusal}
use Rattle.answers.specs.Refusals.{number, answer_of}
use Rattle.choosers.specs.Slots.{actives}
use Rattle.choosers.specs.SlotCalls.{slot_limit}
use Rattle.choosers.proofs.GetLaws.{look_all}
use Rattle.rounds.specs.Locations.{state_of}
use Rattle.rounds.specs.declared.round.Round.{Round}
use Rattle.rounds.specs.Rounds.{reservoir_of, map_of, state, fitting}
use Rattle.rounds.specs.Plans.{terminal_of, plan_call, plan_lists}
use Rattle.rounds.specs.InnerRounds.{idle_of, dealt_to}
use Rattle.rounds.proofs.RoundCallLaws.{fits_both}

-- ---- whether the record fits, and whether no slot is active

same_truth : (a b : Bool) → result a ≡ result b → a ≡ b
same_truth a b e = cc

pub record Ready (r : Round) (l t : List ℕ) (idle : Bool) : Type 0 where
  pub fits : fitting (state r l t) ≡ true
  pub none : eqb (length (actives t r.total)) 0 ≡ idle

module _ (r : Round) (l t : List ℕ) (b : Result Bool Refusal) (is : answer_of b ≡ idle_of (state r l t)) where
  pub is_ready : (idle : Bool) → b ≡ Ok idle → Ready r l t idle
  unfolding idle_of
  is_ready idle e =
      let s : result idle ≡ idle_of (state r l t) = ap answer_of (sym e) ∙ is in
      by_test (fitting (state r l t))
      (λ y. record { fits = y; none = same_truth _ _ (sym (rw y at s)) })
      (λ m. not_said 12 idle (sym (rw m at s)))

  pub is_unfit : (w : Refusal) → b ≡ Err w → (fitting (state r l t) ≡ false) × (number w ≡ 12)
  unfolding idle_of
  is_unfit w e =
      let s : refusal (number w) ≡ idle_of (state r l t) = ap answer_of (sym e) ∙ is in
      by_test (fitting (state r l t))
      (λ y. not_said (number w) _ (rw y at s))
      (λ m. (m, refusal_same (number w) 12 (rw m at s)))

-- the sample is k long, so there is room for it
pub deal_room : (r : Round) (l t ls ts : List ℕ) (idle : Bool) → Ready r l t idle → r.k ≤ length ls → r.k ≤ length ts
    → (r.used ≤ length l) × (length (sample (reservoir_of r) l) ≤ length ls) × (length (sample (reservoir_of r) l) ≤ length ts)
deal_room r l t ls ts idle y a b =
    let p = fits_parts (reservoir_of r) l (fits_both r l t y.fits).0 in
    (p.shape.used_le, omega (arith, p.sampled), omega (arith, p.sampled))

-- ---- the answers

module _ (r : Round) (l t ls ts : List ℕ) (places : ℕ) where
  pub plan_unfit : (w : ℕ) → (fitting (state r l t) ≡ false) × (w ≡ 12) → after (refusal w) (plan_lists ls ts) ≡ plan_call (state r l t) ls ts places
  unfolding plan_call
  plan_unfit w e = rw (e.0, e.1)

  module _ (idle : Bool) (y : Ready r l t idle) where
    pub few_locations : length ls < r.k → after (refusal 4) (plan_lists ls ts) ≡ plan_call (state r l t) ls ts places
    unfolding plan_call
    few_locations h = rw (y.fits, lt-ltb (length ls) r.k h)

    module _ (a : r.k ≤ length ls) where
      pub few_terminals : length ts < r.k → after (refusal 4) (plan_lists ls ts) ≡ plan_call (state r l t) ls ts places
      unfolding plan_call
      few_terminals h = rw (y.fits, le-ltb (length ls) r.k a, lt-ltb (length ts) r.k h)

      module _ (b : r.k ≤ length ts) where
        pub few_places : places < min (length t) slot_limit → after (refusal 4) (plan_lists ls ts) ≡ plan_call (state r l t) ls ts places
        unfolding plan_call
        few_places h = rw (y.fits, le-ltb (length ls) r.k a, le-ltb (length ts) r.k b, lt-ltb places (min (length t) slot_limit) h)

        module _ (c : min (length t) slot_limit ≤ places) where
          pub plan_none : idle ≡ true → after (refusal 11) (plan_lists ls ts) ≡ plan_call (state r l t) ls ts places
          unfolding plan_call
          plan_none e = rw (y.fits, le-ltb (length ls) r.k a, le-ltb (length ts) r.k b, le-ltb places (min (length t) slot_limit) c, y.none, e)

          -- with scratch enough the lookup finds get's slot
          dealt_slot : (x : ℕ) → dealt_to r.master_key r.total t places x ≡ terminal_of (state r l t) x
          unfolding dealt_to terminal_of
          dealt_slot x = ap (λ (o : Option ℕ). get_or o 0) (look_all (map_of r) t (state_of r.master_key x) places (fits_both r l t y.fits).1 c)

          pub plan_done : idle ≡ false → (locations terminals : List ℕ)
              → (locations ≡ written (sample (reservoir_of r) l) ls)
              × (terminals ≡ written (map (dealt_to r.master_key r.total t places) (sample (reservoir_of r) l)) ts)
              → after (result tt) (plan_lists locations terminals) ≡ plan_call (state r l t) ls ts places
          unfolding plan_call
          plan_done e locations terminals d =
              (λ i. after (result tt) (plan_lists (d.0 i) (d.1 i)))
              ∙ ap (λ (f : ℕ → ℕ). after (result tt) (plan_lists (written (sample (reservoir_of r) l) ls) (written (map f (sample (reservoir_of r) l)) ts))) (fun_ext dealt_slot)
              ∙ rw (y.fits, le-ltb (length ls) r.k a, le-ltb (length ts) r.k b, le-ltb places (min (length t) slot_limit) c, y.none, e)
