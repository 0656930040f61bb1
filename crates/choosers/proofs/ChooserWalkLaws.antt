-- `next` from `new`, called again and again, gives Q(n) and then none.
-- Assumes nothing.
use mathlib.Core.Path.{◌≡◌, refl, sym, ap, subst, ◌∙◌}
use mathlib.Core.Bool.{true}
use mathlib.Core.Logic.{◌≢◌}
use mathlib.Core.List.{List, [], ◌∷◌}
use mathlib.Core.Option.{Option, some, none}
use Prim.Native.Nat.{ℕ, suc, ◌+◌, ◌^◌, ◌≤◌, ◌<◌}
use native.Mathlib.Omega.{arith}
use native.Mathlib.Numerals.{add-one}
use lib.ListN.{length, get_or, drop, drop_of_length-le}
use lib.Seq.{drop-cons}
use Rattle.answers.specs.Answers.{result, after, After}
use Rattle.lists.specs.Lists.{lacked}
use Rattle.answers.specs.Steps.{answers, one_by_one}
use Rattle.lists.proofs.Tests.{by_same}
use Rattle.answers.proofs.Turns.{Turn, ended, gave, all_answers}
use Rattle.lists.proofs.Listing.{listing_at}
use Rattle.choosers.specs.declared.choose_k.ConsistentChooseKHasher.{ConsistentChooseKHasher}
use Rattle.choosers.specs.Choosers.{S, Q}
use Rattle.choosers.specs.ChooserCalls.{chooser_of, samples_of, fitting, next_call, Chooses, chooser_state, ChooserState}
use Rattle.choosers.specs.InnerChoosers.{grow_in}
use Rattle.choosers.specs.ChooserWalks.{next_step, walk_from}
use Rattle.choosers.proofs.SampleLaws.{S_ascending}
use Rattle.choosers.proofs.OrderLaws.{length_Q}
use Rattle.choosers.proofs.CheckLaws.{fits_of}
use Rattle.choosers.proofs.ChooserCallLaws.{next_full, next_done, grown_length}
use Rattle.choosers.proofs.ConsistentLaws.{next_consistent}

-- samples that are S(k, n) are never refused 12
pub chooses_fits : (c : ConsistentChooseKHasher) (l : List ℕ) → c.k ≤ c.n → c.k ≤ length l → Chooses c l → fitting c l ≡ true
chooses_fits c l h e q = fits_of c l e (rw q (S_ascending c.state c.k c.n h))

-- the t-th number of Q(n) is the member of S(t+1, n) that S(t, n) lacks
pub Q_lacked : (s n t : ℕ) → t < n → get_or (Q s n) t 0 ≡ lacked (S s (suc t) n) (S s t n)
unfolding Q
Q_lacked s n t h = listing_at (λ t. lacked (S s (suc t) n) (S s t n)) n t h

-- a walk under way: k numbers of Q(n) are given
record Under (s n : ℕ) (w : ChooserState) : Type 0 where
  few : w.chooser.k ≤ n
  long : n ≤ length w.list
  is : w.chooser ≡ chooser_of s n w.chooser.k
  chooses : Chooses (chooser_of s n w.chooser.k) w.list

abbrev rest : ℕ → ℕ → ChooserState → List ℕ
rest s n w = drop w.chooser.k (Q s n)

module _ (s n : ℕ) (small : n ≤ 2 ^ 62) where
  module _ (k : ℕ) (l : List ℕ) (few : k ≤ n) (long : n ≤ length l) (q : Chooses (chooser_of s n k) l) where
    ok : fitting (chooser_of s n k) l ≡ true
    ok = chooses_fits (chooser_of s n k) l few (omega arith) q

    turn_full : k ≡ n → Turn next_step (rest s n) (Under s n) (chooser_state (chooser_of s n k) l)
    turn_full e =
        let stop : after (result none) (chooser_state (chooser_of s n k) l) ≡ next_call (chooser_of s n k) l = next_full (chooser_of s n k) l ok small e in
        let nothing : drop k (Q s n) ≡ [] = drop_of_length-le (Q s n) {i = k} (omega (arith, length_Q s n)) in
        ended
        (ap (λ (a : After ChooserState (Option ℕ)). a.answer) (sym stop))
        (subst (λ (a : After ChooserState (Option ℕ)). Under s n a.left) stop (record { few = few; long = long; is = refl; chooses = q }))
        (ap (λ (a : After ChooserState (Option ℕ)). drop a.left.chooser.k (Q s n)) (sym stop) ∙ nothing)
        nothing

    turn_more : k ≢ n → Turn next_step (rest s n) (Under s n) (chooser_state (chooser_of s n k) l)
    turn_more d =
        let now : List ℕ = (grow_in s k l n).samples in
        let i : ℕ = (grow_in s k l n).index in
        let x : ℕ = get_or now i 0 in
        let go : after (result (some x)) (chooser_state (chooser_of s n (k + 1)) now) ≡ next_call (chooser_of s n k) l
        = next_done (chooser_of s n k) l ok small d (omega (arith, d)) now i refl in
        let c = next_consistent (chooser_of s n k) l in
        let chosen : Chooses (chooser_of s n (k + 1)) now
        = subst (λ (a : After ChooserState (Option ℕ)). Chooses a.left.chooser a.left.list) (sym go) (c.chooses q) in
        let is-next : x ≡ get_or (Q s n) k 0
        = (subst (λ (a : After ChooserState (Option ℕ)). a.answer ≡ result (some x) → x ≡ lacked (samples_of a.left.chooser a.left.list) (samples_of (chooser_of s n k) l)) (sym go) (c.number q x)) refl
        ∙ ap (λ (xs : List ℕ). lacked xs (samples_of (chooser_of s n k) l)) chosen
        ∙ ap (λ (xs : List ℕ). lacked (S s (k + 1) n) xs) q
        ∙ ap (λ (m : ℕ). lacked (S s m n) (S s k n)) (add-one k)
        ∙ sym (Q_lacked s n k (omega (arith, d))) in
        gave x
        (ap (λ (a : After ChooserState (Option ℕ)). a.answer) (sym go))
        (subst (λ (a : After ChooserState (Option ℕ)). Under s n a.left) go
        (record { few = omega (arith, d); long = omega (arith, grown_length (chooser_of s n k) l ok small (omega (arith, d))); is = refl; chooses = chosen }))
        (drop-cons (Q s n) k 0 (omega (arith, d, length_Q s n))
        ∙ ap (λ (y : ℕ). y ∷ drop (suc k) (Q s n)) (sym is-next)
        ∙ ap (λ (m : ℕ). x ∷ drop m (Q s n)) (sym (add-one k))
        ∙ ap (λ (a : After ChooserState (Option ℕ)). x ∷ drop a.left.chooser.k (Q s n)) go)

  turn : (w : ChooserState) → Under s n w → Turn next_step (rest s n) (Under s n) w
  turn w u =
      subst (λ (c : ConsistentChooseKHasher). Turn next_step (rest s n) (Under s n) (chooser_state c w.list)) (sym u.is)
      (by_same w.chooser.k n
      (λ e. turn_full w.chooser.k w.list u.few u.long u.chooses e)
      (λ d. turn_more w.chooser.k w.list u.few u.long u.chooses d))

  nothing_yet : (l : List ℕ) → Chooses (chooser_of s n 0) l
  unfolding S
  nothing_yet l = refl

  -- over all calls, in a list that has room for n samples
  pub chooser_walk : (l : List ℕ) → n ≤ length l → (calls : ℕ) → answers next_step calls (walk_from s n l) ≡ one_by_one calls (Q s n)
  chooser_walk l h calls =
      all_answers turn calls (walk_from s n l) (record { few = omega arith; long = h; is = refl; chooses = nothing_yet l })
