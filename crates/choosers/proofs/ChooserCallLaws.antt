-- The chooser's calls by their cases.
-- Assumes nothing.
use mathlib.Core.Path.{◌≡◌, refl, sym, ap, ◌∙◌}
use mathlib.Core.Bool.{Bool, true, false, cond, ◌||◌}
use mathlib.Core.Logic.{◌≢◌}
use mathlib.Core.List.{List, ◌++◌}
use mathlib.Core.Option.{Option, some, none}
use Prim.Native.Nat.{ℕ, suc, ◌+◌, ◌-◌, ◌^◌, ◌≤◌, ◌<◌}
use native.Mathlib.Omega.{arith}
use borrow.Author.Tests.{lt-ltb, le-ltb, le-leb, lt-leb, eq-eqb, ne_eqb, ltb-false}
use lib.Dec.{ltb, eqb}
use lib.ListN.{length, get_or, drop, length-append, length-drop}
use lib.Seq.{length-take-le}
use Rattle.answers.specs.Answers.{Answer, refusal, result, map_answer, After, refused, after}
use Rattle.lists.specs.Lists.{last, written}
use Rattle.lists.proofs.Tests.{by_cond, by_below}
use Rattle.answers.proofs.AnswerLaws.{not_said, said_same, refusal_same}
use Rattle.lists.proofs.Ascending.{length_snoc, last_take}
use Rattle.lists.proofs.Writing.{written_at}
use Rattle.choosers.specs.declared.choose_k.ConsistentChooseKHasher.{ConsistentChooseKHasher}
use Rattle.choosers.specs.Choosers.{g, Moved, moved, lower_at, lower, shrink, grow}
use Rattle.choosers.specs.ChooserCalls.{samples_of, chooser_of, fitting, tested, grown_by, grow_call, next_call, shrink_call, ChooserState, chooser_state}
use Rattle.choosers.specs.InnerChoosers.{tests, grown, grow_in}
use Rattle.choosers.proofs.CheckLaws.{Parts, fits_parts}
use Rattle.choosers.proofs.CountLaws.{counts_yes, counts_no}
use Rattle.choosers.proofs.TurnLaws.{lower_length, lower_index, lower_take}

-- ---- how long the samples are after a step, and where the index stands

pub shrink_length : (s : ℕ) (xs : List ℕ) → length (shrink s xs).samples ≡ length xs
unfolding shrink lower
shrink_length s xs = lower_length s (length xs) xs (last xs)

pub grow_length : (s : ℕ) (xs : List ℕ) (n : ℕ) → length (grow s xs n).samples ≡ suc (length xs)
unfolding grow lower
grow_length s xs n =
    by_cond (λ (m : Moved). length m.samples ≡ suc (length xs)) (eqb (length xs) 0 || ltb (last xs) (g s (length xs) n)) _ _
    (λ _. length_snoc xs (g s (length xs) n))
    (λ _. length_snoc (lower_at s (length xs) xs (last xs)).samples (last xs) ∙ ap suc (lower_length s (length xs) xs (last xs)))

pub grow_index : (s : ℕ) (xs : List ℕ) (n : ℕ) → (grow s xs n).index ≤ length xs
unfolding grow lower
grow_index s xs n =
    by_cond (λ (m : Moved). m.index ≤ length xs) (eqb (length xs) 0 || ltb (last xs) (g s (length xs) n)) _ _
    (λ _. omega arith)
    (λ _. lower_index s (length xs) xs (last xs))

-- ---- the tests that all calls on a record have, by how two tests go

refused_by : (c : ConsistentChooseKHasher) (l : List ℕ) {A : Type 0} (a : After ChooserState A) (w : ℕ) (fit high : Bool)
    → ◌≡◌ {A = Answer (Unit {0})} (refusal w) (cond fit (cond high (refusal 1) (result tt)) (refusal 12))
    → refused w (chooser_state c l) ≡ cond fit (cond high (refused 1 (chooser_state c l)) a) (refused 12 (chooser_state c l))
refused_by c l a w true true e = ap (λ (w : ℕ). refused w (chooser_state c l)) (refusal_same w 1 e)
refused_by c l a w true false e = not_said w tt e
refused_by c l a w false high e = ap (λ (w : ℕ). refused w (chooser_state c l)) (refusal_same w 12 e)

passed_by : (fit high : Bool) → ◌≡◌ {A = Answer (Unit {0})} (result tt) (cond fit (cond high (refusal 1) (result tt)) (refusal 12)) → (fit ≡ true) × (high ≡ false)
passed_by true true e = not_said 1 tt (sym e)
passed_by true false e = (refl, refl)
passed_by false high e = not_said 12 tt (sym e)

-- what `next` says where one sample more came in: the number at its index
abbrev pub drawn : After ChooserState ℕ → After ChooserState (Option ℕ)
drawn a = after (map_answer (λ i. some (get_or a.left.list i 0)) a.answer) (chooser_state a.left.chooser a.left.list)

module _ (c : ConsistentChooseKHasher) (l : List ℕ) where
  -- ---- the tests that all have: 12, then 1

  pub tests_unfit : fitting c l ≡ false → refusal 12 ≡ tests c l
  unfolding tests
  tests_unfit e = rw e

  pub tests_above : fitting c l ≡ true → 2 ^ 62 < c.n → refusal 1 ≡ tests c l
  unfolding tests
  tests_above e h = rw (e, lt-ltb (2 ^ 62) c.n h)

  pub tests_pass : fitting c l ≡ true → c.n ≤ 2 ^ 62 → result tt ≡ tests c l
  unfolding tests
  tests_pass e h = rw (e, le-ltb (2 ^ 62) c.n h)

  -- what they refuse, every call refuses
  pub tests_refuse : {A : Type 0} (a : After ChooserState A) (w : ℕ) → refusal w ≡ tests c l → refused w (chooser_state c l) ≡ tested c l a
  unfolding tests tested
  tests_refuse a w e = refused_by c l a w (fitting c l) (ltb (2 ^ 62) c.n) e

  -- what they let pass
  pub passed : result tt ≡ tests c l → (fitting c l ≡ true) × (c.n ≤ 2 ^ 62)
  unfolding tests
  passed e =
      let p = passed_by (fitting c l) (ltb (2 ^ 62) c.n) e in
      (p.0, ltb-false (2 ^ 62) c.n p.1)

  module _ (ok : fitting c l ≡ true) (small : c.n ≤ 2 ^ 62) where
    pub tested_good : {A : Type 0} (a : After ChooserState A) → tested c l a ≡ a
    unfolding tested
    tested_good a = rw (ok, le-ltb (2 ^ 62) c.n small)

    parts : Parts c l
    parts = fits_parts c l ok

    long : length (samples_of c l) ≡ c.k
    long = length-take-le c.k l parts.within

    -- ---- grow and next

    pub grow_full : c.k ≡ c.n → refused 6 (chooser_state c l) ≡ grow_call c l
    unfolding grow_call
    grow_full e = rw (tested_good _, eq-eqb c.k c.n e)

    pub next_full : c.k ≡ c.n → after (result none) (chooser_state c l) ≡ next_call c l
    unfolding next_call
    next_full e = rw (tested_good _, eq-eqb c.k c.n e)

    module _ (more : c.k ≢ c.n) where
      pub next_short : length l < c.k + 1 → refused 4 (chooser_state c l) ≡ next_call c l
      unfolding next_call grown_by
      next_short h = rw (tested_good _, ne_eqb c.k c.n more, lt-ltb (length l) (c.k + 1) h)

      module _ (room : c.k + 1 ≤ length l) (now : List ℕ) (i : ℕ) (e : moved now i ≡ grow_in c.state c.k l c.n) where
        abbrev step : Moved
        step = grow c.state (samples_of c l) c.n

        now_is : now ≡ written step.samples l
        unfolding grow_in written
        now_is =
            ap (λ (m : Moved). m.samples) e
            ∙ ap (λ (u : ℕ). step.samples ++ drop u l) (sym (grow_length c.state (samples_of c l) c.n ∙ ap suc long))

        index_is : i ≡ step.index
        unfolding grow_in
        index_is = ap (λ (m : Moved). m.index) e

        pub index_within : i ≤ c.k
        index_within = omega (arith, index_is, grow_index c.state (samples_of c l) c.n, long)

        pub grown_done : after (result i) (chooser_state (chooser_of c.state c.n (c.k + 1)) now) ≡ grown c l
        unfolding grown grown_by
        grown_done = rw (le-ltb (length l) (c.k + 1) room, now_is, index_is)

        pub next_done : after (result (some (get_or now i 0))) (chooser_state (chooser_of c.state c.n (c.k + 1)) now) ≡ next_call c l
        unfolding next_call grown_by
        next_done =
            let x : get_or now i 0 ≡ get_or step.samples step.index 0
            = ap (λ (u : List ℕ). get_or u i 0) now_is ∙ ap (λ (j : ℕ). get_or (written step.samples l) j 0) index_is
            ∙ written_at step.index step.samples l (omega (arith, grow_length c.state (samples_of c l) c.n, grow_index c.state (samples_of c l) c.n)) in
            rw (tested_good _, ne_eqb c.k c.n more, le-ltb (length l) (c.k + 1) room, x, now_is)

    -- the list keeps its length
    pub grown_length : c.k + 1 ≤ length l → length (grow_in c.state c.k l c.n).samples ≡ length l
    unfolding grow_in
    grown_length room =
        length-append (grow c.state (samples_of c l) c.n).samples (drop (suc c.k) l)
        ∙ rw length-drop (omega (arith, grow_length c.state (samples_of c l) c.n, long))

    -- ---- one sample more, as one function of the code makes it

    pub grown_short : length l ≤ c.k → refused 4 (chooser_state c l) ≡ grown c l
    unfolding grown grown_by
    grown_short h = rw (lt-ltb (length l) (c.k + 1) (omega arith))

    module _ (more : c.k ≢ c.n) where
      pub grow_is : grow_call c l ≡ grown c l
      unfolding grow_call grown
      grow_is = rw (tested_good _, ne_eqb c.k c.n more)

      pub next_is : next_call c l ≡ drawn (grown c l)
      next_is =
          by_below (length l) (c.k + 1)
          (λ h. sym (next_short more h) ∙ ap drawn (grown_short (omega arith)))
          (λ h. sym (next_done more h _ _ refl) ∙ ap drawn (grown_done more h _ _ refl))

      -- the index that is answered lies in the list
      pub grown_index : (i : ℕ) (c' : ConsistentChooseKHasher) (l' : List ℕ) → after (result i) (chooser_state c' l') ≡ grown c l → i < length l'
      grown_index i c' l' e =
          by_below (length l) (c.k + 1)
          (λ h. let z : refusal 4 ≡ result i = ap (λ (a : After ChooserState ℕ). a.answer) (grown_short (omega arith) ∙ sym e) in not_said 4 i z)
          (λ h.
          let now = grow_in c.state c.k l c.n in
          let d : after (result now.index) (chooser_state (chooser_of c.state c.n (c.k + 1)) now.samples) ≡ after (result i) (chooser_state c' l') = grown_done more h _ _ refl ∙ sym e in
          let at : now.index ≡ i = said_same now.index i (ap (λ (a : After ChooserState ℕ). a.answer) d) in
          let long : length now.samples ≡ length l' = ap (λ (a : After ChooserState ℕ). length a.left.list) d in
          omega (arith, at, long, grown_length h, index_within more h now.samples now.index refl))

    -- ---- shrink

    pub shrink_none : c.k ≡ 0 → refused 5 (chooser_state c l) ≡ shrink_call c l
    unfolding shrink_call
    shrink_none e = rw (tested_good _, eq-eqb c.k 0 e)

    module _ (some : c.k ≢ 0) where
      pub shrink_all : c.n ≤ c.k → refused 5 (chooser_state c l) ≡ shrink_call c l
      unfolding shrink_call
      shrink_all h = rw (tested_good _, ne_eqb c.k 0 some, le-leb c.n c.k h)

      last_is : last (samples_of c l) ≡ get_or l (c.k - 1) 0
      last_is = last_take c.k l (omega (arith, some)) parts.within

      module _ (wide : c.k < c.n) where
        pub shrink_low : get_or l (c.k - 1) 0 < c.k → refused 5 (chooser_state c l) ≡ shrink_call c l
        unfolding shrink_call
        shrink_low h =
            rw (
              tested_good _,
              ne_eqb c.k 0 some,
              lt-leb c.n c.k wide,
              counts_yes (samples_of c l) c.n parts.rising (omega (arith, last_is, long)),
            )

        pub shrink_done : (now : List ℕ) (i : ℕ) → c.k ≤ get_or l (c.k - 1) 0 → moved now i ≡ lower_at c.state c.k l (get_or l (c.k - 1) 0)
            → after (result i) (chooser_state (chooser_of c.state (get_or l (c.k - 1) 0) c.k) now) ≡ shrink_call c l
        unfolding shrink_call shrink written
        shrink_done now i h e =
            let m : Moved = lower c.state (samples_of c l) (last (samples_of c l)) in
            let e' : moved now i ≡ moved (m.samples ++ drop c.k l) m.index
            = e ∙ ap (lower_at c.state c.k l) (sym last_is) ∙ lower_take c.state c.k l (last (samples_of c l)) parts.within in
            let now_is : now ≡ m.samples ++ drop (length m.samples) l
            = ap (λ (u : Moved). u.samples) e' ∙ ap (λ (u : ℕ). m.samples ++ drop u l) (sym (shrink_long ∙ long)) in
            let index_is : i ≡ m.index = ap (λ (u : Moved). u.index) e' in
            rw (
              tested_good _,
              ne_eqb c.k 0 some,
              lt-leb c.n c.k wide,
              counts_no (samples_of c l) (omega (arith, long, some)) (omega (arith, last_is, long)),
              now_is,
              index_is,
              ← last_is,
            )
          where
            shrink_long : length (lower c.state (samples_of c l) (last (samples_of c l))).samples ≡ length (samples_of c l)
            shrink_long = shrink_length c.state (samples_of c l)
