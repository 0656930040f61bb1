-- Where the samples are S(k, n): what grow, next and shrink leave is S(k, n) of the record after them, and they say which number
-- came in and where.
-- Assumes nothing.
use mathlib.Core.Path.{◌≡◌, refl, sym, ap, subst, ◌∙◌}
use mathlib.Core.Bool.{Bool, true, false, ◌||◌, true≢false}
use mathlib.Core.Logic.{◌≢◌}
use mathlib.Core.List.{List, [], ◌∷◌, ◌++◌}
use mathlib.Core.Option.{Option, some, none}
use Prim.Native.Nat.{ℕ, zero, suc, ◌+◌, ◌^◌, ◌<◌}
use native.Mathlib.Omega.{arith}
use native.Mathlib.Numerals.{add-one}
use borrow.Author.Tests.{eqb-false}
use lib.Dec.{ltb, leb, eqb}
use lib.ListN.{length, get_or, take}
use lib.Seq.{length-take-le}
use Rattle.answers.specs.Answers.{result, refused, after, After}
use Rattle.lists.specs.Lists.{last, lacked, written}
use Rattle.lists.proofs.Tests.{by_cond, by_below, same_no}
use Rattle.lists.proofs.Members.{occurrences_append}
use Rattle.lists.proofs.Inserting.{lacked_insert_at}
use Rattle.lists.proofs.Writing.{written_take, written_at}
use Rattle.choosers.specs.declared.choose_k.ConsistentChooseKHasher.{ConsistentChooseKHasher}
use Rattle.choosers.specs.Choosers.{largest_g, S, Moved, moved, grow, shrink}
use Rattle.choosers.specs.ChooserCalls.{samples_of, chooser_of, fitting, tested, grown_by, grow_call, next_call, counts_from, shrink_call, Chooses, Consistent, ConsistentNext, chooser_state, ChooserState}
use Rattle.choosers.proofs.SampleLaws.{length_S}
use Rattle.choosers.proofs.LoweringLaws.{enters_at, enters_le, grow_gives, shrink_gives, last_S, S_open}
use Rattle.choosers.proofs.EntryLaws.{new, new_lt, new_fresh, new_lacked, enters_new, S_insert}
use Rattle.choosers.proofs.CheckLaws.{Parts, fits_parts}
use Rattle.choosers.proofs.CountLaws.{counts_yes}

pub or_false : (a b : Bool) → (a || b) ≡ false → (a ≡ false) × (b ≡ false)
or_false true b e = absurd (true≢false e)
or_false false b e = (refl, e)

-- ---- a call that changes nothing

module _ (c : ConsistentChooseKHasher) (l : List ℕ) where
  refused_keeps : (w : ℕ) → Consistent c l (refused w (chooser_state c l))
  refused_keeps w = record {
    chooses = λ h. h;
    index = λ h i e. let z : ◌≡◌ {A = ℕ} 0 1 = cc in absurd (omega arith);
  }

  refused_keeps_next : (w : ℕ) → ConsistentNext c l (refused w (chooser_state c l))
  refused_keeps_next w = record {
    chooses = λ h. h;
    number = λ h x e. let z : ◌≡◌ {A = ℕ} 0 1 = cc in absurd (omega arith);
  }

  none_keeps : ConsistentNext c l (after (result none) (chooser_state c l))
  none_keeps = record {
    chooses = λ h. h;
    number = λ h x e. let z : ◌≡◌ {A = ℕ} 0 1 = cc in absurd (omega arith);
  }

  pub tested_keeps : {A : Type 0} (P : After ChooserState A → Type 0) (a : After ChooserState A) → ((w : ℕ) → P (refused w (chooser_state c l))) → (Parts c l → P a) → P (tested c l a)
  unfolding tested
  tested_keeps P a r f =
      by_cond P (fitting c l) _ _
      (λ ok. by_cond P (ltb (2 ^ 62) c.n) _ _ (λ _. r 1) (λ _. f (fits_parts c l ok)))
      (λ _. r 12)

  -- ---- grow and next

  module _ (p : Parts c l) (more : c.k ≢ c.n) (h : Chooses c l) where
    less : c.k < c.n
    less = omega (arith, p.few, more)

    grown : grow c.state (samples_of c l) c.n ≡ moved (S c.state (suc c.k) c.n) (enters_at c.state c.k c.n)
    grown = ap (λ (xs : List ℕ). grow c.state xs c.n) h ∙ grow_gives c.state c.k c.n less

    samples_are : (grow c.state (samples_of c l) c.n).samples ≡ S c.state (suc c.k) c.n
    samples_are = ap (λ (m : Moved). m.samples) grown

    taken : take (c.k + 1) (written (grow c.state (samples_of c l) c.n).samples l) ≡ S c.state (c.k + 1) c.n
    taken =
        rw (add-one, samples_are)
        (written_take (suc c.k) (S c.state (suc c.k) c.n) l (length_S c.state (suc c.k) c.n))

    came_in : lacked (S c.state (c.k + 1) c.n) (samples_of c l) ≡ new c.state c.k c.n
    came_in = rw (add-one, h) (new_lacked c.state c.k c.n less)

    at_index : get_or (grow c.state (samples_of c l) c.n).samples (grow c.state (samples_of c l) c.n).index 0 ≡ new c.state c.k c.n
    at_index = rw grown (enters_new c.state c.k c.n less)

    in_list : get_or (written (grow c.state (samples_of c l) c.n).samples l) (grow c.state (samples_of c l) c.n).index 0 ≡ new c.state c.k c.n
    in_list =
        written_at (grow c.state (samples_of c l) c.n).index (grow c.state (samples_of c l) c.n).samples l
        (rw grown (omega (arith, length_S c.state (suc c.k) c.n, enters_le c.state c.k c.n)))
        ∙ at_index

  grown_keeps : Parts c l → c.k ≢ c.n → (m : Moved) → m ≡ grow c.state (samples_of c l) c.n → Consistent c l (grown_by c l m m.index)
  unfolding grown_by
  grown_keeps p more m e =
      by_cond (Consistent c l) (ltb (length l) (c.k + 1)) _ _
      (λ _. refused_keeps 4)
      (λ _. record {
        chooses = λ h. rw e (taken p more h);
        index = λ h i q.
            let z : m.index ≡ i = cc in
            rw (← z, e, taken p more h) (in_list p more h ∙ sym (came_in p more h));
      })

  grown_keeps_next : Parts c l → c.k ≢ c.n → (m : Moved) → m ≡ grow c.state (samples_of c l) c.n → ConsistentNext c l (grown_by c l m (some (get_or m.samples m.index 0)))
  unfolding grown_by
  grown_keeps_next p more m e =
      by_cond (ConsistentNext c l) (ltb (length l) (c.k + 1)) _ _
      (λ _. refused_keeps_next 4)
      (λ _. record {
        chooses = λ h. rw e (taken p more h);
        number = λ h x q.
            let z : get_or m.samples m.index 0 ≡ x = cc in
            rw (← z, e, taken p more h) (at_index p more h ∙ sym (came_in p more h));
      })

  pub grow_consistent : Consistent c l (grow_call c l)
  unfolding grow_call
  grow_consistent =
      tested_keeps (Consistent c l) _ refused_keeps (λ p.
      by_cond (Consistent c l) (eqb c.k c.n) _ _
      (λ _. refused_keeps 6)
      (λ d. grown_keeps p (eqb-false c.k c.n d) (grow c.state (samples_of c l) c.n) refl))

  pub next_consistent : ConsistentNext c l (next_call c l)
  unfolding next_call
  next_consistent =
      tested_keeps (ConsistentNext c l) _ refused_keeps_next (λ p.
      by_cond (ConsistentNext c l) (eqb c.k c.n) _ _
      (λ _. none_keeps)
      (λ d. grown_keeps_next p (eqb-false c.k c.n d) (grow c.state (samples_of c l) c.n) refl))

  -- ---- shrink

  -- S(k, n) with its last b: b goes out, and S(k, b) has the k-th number of Q(b) instead
  module _ (p : Parts c l) (j : ℕ) (size : c.k ≡ suc j) (not_first : counts_from 0 (samples_of c l) ≡ false) (h : Chooses c l) where
    b : ℕ
    b = largest_g c.state (suc j) c.n

    samples_S : samples_of c l ≡ S c.state (suc j) c.n
    samples_S = h ∙ ap (λ (k : ℕ). S c.state k c.n) size

    last_is : last (samples_of c l) ≡ b
    unfolding b
    last_is = ap last samples_S ∙ last_S c.state j c.n

    high : j < b
    unfolding b
    high =
        by_below j b
        (λ q. q)
        (λ q. absurd (true≢false (sym (counts_yes (samples_of c l) c.n p.rising (omega (arith, last_is, length-take-le c.k l p.within, size))) ∙ not_first)))

    shrunk : shrink c.state (samples_of c l) ≡ moved (S c.state (suc j) b) (enters_at c.state j b)
    unfolding b
    shrunk = ap (shrink c.state) samples_S ∙ shrink_gives c.state j c.n high

    shrunk_taken : take c.k (written (shrink c.state (samples_of c l)).samples l) ≡ S c.state (suc j) b
    shrunk_taken = rw shrunk (written_take c.k (S c.state (suc j) b) l (length_S c.state (suc j) b ∙ sym size))

    shrunk_at : get_or (written (shrink c.state (samples_of c l)).samples l) (shrink c.state (samples_of c l)).index 0 ≡ new c.state j b
    shrunk_at =
        rw shrunk
        (written_at (enters_at c.state j b) (S c.state (suc j) b) l (omega (arith, length_S c.state (suc j) b, enters_le c.state j b))
        ∙ enters_new c.state j b high)

    shrunk_lacked : lacked (S c.state (suc j) b) (samples_of c l) ≡ new c.state j b
    unfolding b
    shrunk_lacked =
        rw (samples_S, S_open c.state j c.n, S_insert c.state j b high)
        (lacked_insert_at (S c.state j b) (S c.state j b ++ (b ∷ [])) (enters_at c.state j b) (new c.state j b)
        (λ v q. omega (arith, occurrences_append v (S c.state j b) (b ∷ [])))
        (occurrences_append (new c.state j b) (S c.state j b) (b ∷ [])
        ∙ rw (same_no b (new c.state j b) (λ q. omega (arith, q, new_lt c.state j b high))) (omega (arith, new_fresh c.state j b high))))

  shrunk_keeps : Parts c l → (k : ℕ) → c.k ≡ k → k ≢ 0 → counts_from 0 (samples_of c l) ≡ false → (m : Moved) → m ≡ shrink c.state (samples_of c l)
      → Consistent c l (after (result m.index) (chooser_state (chooser_of c.state (last (samples_of c l)) c.k) (written m.samples l)))
  shrunk_keeps p zero q d f m e = absurd (d refl)
  shrunk_keeps p (suc j) q d f m e = record {
    chooses = λ h. rw e (shrunk_taken p j q f h ∙ ap (λ (k : ℕ). S c.state k (b p j q f h)) (sym q) ∙ ap (S c.state c.k) (sym (last_is p j q f h)));
    index = λ h i z.
        let w : m.index ≡ i = cc in
        rw (← w, e, shrunk_taken p j q f h) (shrunk_at p j q f h ∙ sym (shrunk_lacked p j q f h));
  }

  pub shrink_consistent : Consistent c l (shrink_call c l)
  unfolding shrink_call
  shrink_consistent =
      tested_keeps (Consistent c l) _ refused_keeps (λ p.
      by_cond (Consistent c l) (eqb c.k 0 || leb c.n c.k || counts_from 0 (samples_of c l)) _ _
      (λ _. refused_keeps 5)
      (λ d. let e = or_false (eqb c.k 0 || leb c.n c.k) (counts_from 0 (samples_of c l)) d in
      shrunk_keeps p c.k refl (eqb-false c.k 0 (or_false (eqb c.k 0) (leb c.n c.k) e.0).0) e.1 (shrink c.state (samples_of c l)) refl))

  -- ---- what a call leaves, by its steps and by S: for the promises

  pub grow_both : (a : After ChooserState ℕ) → a ≡ grow_call c l → (a ≡ grow_call c l) × Consistent c l a
  grow_both a e = (e, subst (Consistent c l) (sym e) grow_consistent)

  pub next_both : (a : After ChooserState (Option ℕ)) → a ≡ next_call c l → (a ≡ next_call c l) × ConsistentNext c l a
  next_both a e = (e, subst (ConsistentNext c l) (sym e) next_consistent)

  pub shrink_both : (a : After ChooserState ℕ) → a ≡ shrink_call c l → (a ≡ shrink_call c l) × Consistent c l a
  shrink_both a e = (e, subst (Consistent c l) (sym e) shrink_consistent)
