-- A chooser's record that fits its list fits it after every call, refused or not, whatever its samples are.
-- Assumes nothing.
use mathlib.Core.Path.{◌≡◌, sym, ◌∙◌}
use mathlib.Core.Bool.{true, false, true≢false, ◌||◌}
use mathlib.Core.Logic.{◌≢◌}
use mathlib.Core.List.{List}
use Prim.Native.Nat.{ℕ, ◌+◌, ◌≤◌}
use native.Mathlib.Omega.{arith}
use borrow.Author.Tests.{ltb-false, eqb-false}
use lib.Dec.{ltb, leb, eqb}
use lib.ListN.{length}
use lib.Seq.{length-take-le}
use Rattle.answers.specs.Answers.{result, After, after}
use Rattle.lists.specs.Lists.{last, written, Ascending}
use Rattle.lists.proofs.Tests.{by_cond, by_below}
use Rattle.lists.proofs.Writing.{written_take, length_written}
use Rattle.choosers.specs.declared.choose_k.ConsistentChooseKHasher.{ConsistentChooseKHasher}
use Rattle.choosers.specs.Choosers.{grow, shrink}
use Rattle.choosers.specs.ChooserCalls.{chooser_of, samples_of, fitting, grown_by, grow_call, next_call, counts_from, shrink_call, ChooserState, chooser_state}
use Rattle.choosers.proofs.CheckLaws.{Parts, fits_of}
use Rattle.choosers.proofs.CountLaws.{counts_yes}
use Rattle.choosers.proofs.StepLaws.{grow_ascends, shrink_ascends}
use Rattle.choosers.proofs.ChooserCallLaws.{grow_length, shrink_length}
use Rattle.choosers.proofs.ConsistentLaws.{or_false, tested_keeps}

module _ (c : ConsistentChooseKHasher) (l : List ℕ) (ok : fitting c l ≡ true) where
  abbrev Fits : {A : Type 0} → After ChooserState A → Type 0
  Fits a = fitting a.left.chooser a.left.list ≡ true

  -- samples that ascend, written to the list
  written_fits : (xs : List ℕ) (n k : ℕ) → length xs ≡ k → k ≤ length l → Ascending xs n → fitting (chooser_of c.state n k) (written xs l) ≡ true
  written_fits xs n k e h a =
      fits_of (chooser_of c.state n k) (written xs l) (omega (arith, length_written xs l (omega arith)))
      (rw (written_take k xs l e) a)

  grown_fits : {A : Type 0} → Parts c l → c.k ≢ c.n → (x : A) → Fits (grown_by c l (grow c.state (samples_of c l) c.n) x)
  unfolding grown_by
  grown_fits p more x =
      let long : length (samples_of c l) ≡ c.k = length-take-le c.k l p.within in
      by_cond Fits (ltb (length l) (c.k + 1)) _ _
      (λ _. ok)
      (λ room. written_fits (grow c.state (samples_of c l) c.n).samples c.n (c.k + 1)
      (grow_length c.state (samples_of c l) c.n ∙ omega arith)
      (ltb-false (length l) (c.k + 1) room)
      (grow_ascends c.state (samples_of c l) c.n p.rising (omega (arith, p.few, more))))

  pub grow_fits : Fits (grow_call c l)
  unfolding grow_call
  grow_fits =
      tested_keeps c l Fits _ (λ _. ok) (λ p.
      by_cond Fits (eqb c.k c.n) _ _ (λ _. ok) (λ d. grown_fits p (eqb-false c.k c.n d) _))

  pub next_fits : Fits (next_call c l)
  unfolding next_call
  next_fits =
      tested_keeps c l Fits _ (λ _. ok) (λ p.
      by_cond Fits (eqb c.k c.n) _ _ (λ _. ok) (λ d. grown_fits p (eqb-false c.k c.n d) _))

  shrunk_fits : Parts c l → c.k ≢ 0 → counts_from 0 (samples_of c l) ≡ false → Fits (after (result (shrink c.state (samples_of c l)).index) (chooser_state (chooser_of c.state (last (samples_of c l)) c.k) (written (shrink c.state (samples_of c l)).samples l)))
  shrunk_fits p more not_first =
      let long : length (samples_of c l) ≡ c.k = length-take-le c.k l p.within in
      let high : length (samples_of c l) ≤ last (samples_of c l)
      = by_below (last (samples_of c l)) (length (samples_of c l))
      (λ q. absurd (true≢false (sym (counts_yes (samples_of c l) c.n p.rising q) ∙ not_first)))
      (λ q. q) in
      written_fits (shrink c.state (samples_of c l)).samples (last (samples_of c l)) c.k
      (shrink_length c.state (samples_of c l) ∙ long) p.within
      (shrink_ascends c.state (samples_of c l) c.n p.rising (omega (arith, more)) high)

  pub shrink_fits : Fits (shrink_call c l)
  unfolding shrink_call
  shrink_fits =
      tested_keeps c l Fits _ (λ _. ok) (λ p.
      by_cond Fits (eqb c.k 0 || leb c.n c.k || counts_from 0 (samples_of c l)) _ _
      (λ _. ok)
      (λ d. let e = or_false (eqb c.k 0 || leb c.n c.k) (counts_from 0 (samples_of c l)) d in
      shrunk_fits p (eqb-false c.k 0 (or_false (eqb c.k 0) (leb c.n c.k) e.0).0) e.1))
