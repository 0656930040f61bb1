-- Growing and shrinking on any samples that ascend, whether they are an S(k, n) or not: what they leave ascends again, below the
-- n that they leave. So a record that fits its list fits it after every call.
-- Assumes nothing.
use mathlib.Core.Path.{◌≡◌, refl, sym, ap, ◌∙◌}
use mathlib.Core.List.{List, [], ◌∷◌, ◌++◌, append-nil}
use Prim.Native.Nat.{ℕ, zero, suc, ◌-◌, ◌≤◌, ◌<◌, max}
use native.Mathlib.Omega.{arith}
use borrow.Author.Tests.{lt-ltb, le-ltb}
use lib.Dec.{eqb-suc-zero}
use lib.ListN.{length}
use lib.Seq.{get_or_at, append_snoc}
use Rattle.lists.specs.Lists.{last, Ascending}
use Rattle.lists.proofs.Tests.{by_below}
use Rattle.lists.proofs.Ascending.{length_snoc, last_snoc, ascending_nil, ascending_snoc, ascending_init, ascending_last}
use Rattle.choosers.specs.Choosers.{g, Moved, larger, lower_at, lower, shrink, grow}
use Rattle.choosers.proofs.SampleLaws.{g_lt, g_ge}
use Rattle.choosers.proofs.LoweringLaws.{lower_on, lower_stop}

-- what lower leaves of the first i + 1 samples: as many, ascending below m, with the rest of the list behind them
record Left (r : Moved) (i m : ℕ) (rest : List ℕ) : Type 0 where
  front : List ℕ
  up : Ascending front m
  is : r.samples ≡ front ++ rest

-- a list of one entry more, by its last
by_last : {C : Type 0} (l : List ℕ) (j : ℕ) → length l ≡ suc j → ((p : List ℕ) (x : ℕ) → length p ≡ j → l ≡ p ++ (x ∷ []) → C) → C
by_last [] j e f = absurd (omega arith)
by_last (x ∷ []) zero e f = f [] x refl refl
by_last (x ∷ []) (suc j) e f = absurd (omega arith)
by_last (x ∷ y ∷ l) zero e f = absurd (omega arith)
by_last (x ∷ y ∷ l) (suc j) e f = by_last (y ∷ l) j (omega arith) (λ p z q r. f (x ∷ p) z (ap suc q) (ap (λ (t : List ℕ). x ∷ t) r))

module _ (s : ℕ) where
  larger_snoc : (j : ℕ) (p : List ℕ) (c m : ℕ) → length p ≡ j → larger s (p ++ (c ∷ [])) (suc j) m ≡ max c (g s (suc j) m)
  unfolding larger
  larger_snoc j p c m e = rw (get_or_at p c [] 0 j e)

  left_zero : (rest : List ℕ) (b m : ℕ) → m ≤ b → 0 < m → Left (lower_at s 1 (b ∷ rest) m) 0 m rest
  unfolding lower_at larger
  left_zero rest b m h e = rw (le-ltb b m h) (record {
    front = g s 0 m ∷ [];
    up = ascending_snoc [] (g s 0 m) m (ascending_nil (g s 0 m)) (g_lt s 0 m e);
    is = refl;
  })

  -- what holds of lower over p, for any sample behind it
  abbrev Below : ℕ → List ℕ → Type 0
  Below j p = (rest : List ℕ) (b m : ℕ) → Ascending p m → m ≤ b → j < m → Left (lower_at s (suc j) (p ++ b ∷ rest) m) j m rest

  -- one turn, over a list whose last is c, with v put behind it
  left_at : (j : ℕ) (p rest : List ℕ) (c v m : ℕ) → length p ≡ j → Ascending p c → c ≤ v → v < m → j < v → Below j p
      → Left (lower_at s (suc j) (p ++ c ∷ (v ∷ rest)) v) (suc j) m rest
  left_at j p rest c v m e a cv vm jv below =
      by_below c v
      (λ lo. rw (lower_stop s j p (v ∷ rest) c v e lo) (record {
        front = p ++ (c ∷ []) ++ (v ∷ []);
        up = ascending_snoc (p ++ (c ∷ [])) v m (ascending_snoc p c v a lo) vm;
        is = sym (append_snoc (p ++ (c ∷ [])) v rest ∙ append_snoc p c (v ∷ rest));
      }))
      (λ hi. let same : c ≡ v = omega arith in
      let r : Left (lower_at s (suc j) (p ++ c ∷ (v ∷ rest)) v) j v (v ∷ rest) = below (v ∷ rest) c v (rw same at a) hi jv in
      record {
        front = r.front ++ (v ∷ []);
        up = ascending_snoc r.front v m r.up vm;
        is = r.is ∙ sym (append_snoc r.front v rest);
      })

  left_turn : (j : ℕ) (p rest : List ℕ) (c b m : ℕ) → length p ≡ j → Ascending (p ++ (c ∷ [])) m → m ≤ b → suc j < m → Below j p
      → Left (lower_at s (suc (suc j)) (p ++ (c ∷ []) ++ b ∷ rest) m) (suc j) m rest
  left_turn j p rest c b m e a h q below =
      let v : ℕ = max c (g s (suc j) m) in
      rw (lower_on s (suc j) (p ++ (c ∷ [])) rest b m (length_snoc p c ∙ ap suc e) h, larger_snoc j p c m e, append_snoc p c (v ∷ rest))
      (left_at j p rest c v m e (ascending_init p c m a) (omega arith) (omega (arith, ascending_last p c m a, g_lt s (suc j) m q)) (omega (arith, g_ge s (suc j) m)) below)

  -- lower from m, over samples p that ascend below m and then b, which is not below it
  lower_left : (i : ℕ) (p : List ℕ) → length p ≡ i → Below i p
  lower_left zero [] e rest b m a h q = left_zero rest b m h q
  lower_left zero (x ∷ p) e rest b m a h q = absurd (omega arith)
  lower_left (suc j) p e rest b m a h q =
      by_last p j e (λ u c l is. rw is (left_turn j u rest c b m l (rw is at a) h q (lower_left j u l)))

  -- from the last sample, where there are no more samples than it is
  lower_ascends : (p : List ℕ) (b n : ℕ) → Ascending (p ++ (b ∷ [])) n → length p < b → Ascending (lower s (p ++ (b ∷ [])) b).samples b
  unfolding lower
  lower_ascends p b n a h =
      let r : Left (lower_at s (suc (length p)) (p ++ (b ∷ [])) b) (length p) b [] = lower_left (length p) p refl [] b b (ascending_init p b n a) (omega arith) h in
      rw (length_snoc p b, r.is, append-nil) r.up

  -- ---- shrink

  pub shrink_ascends : (xs : List ℕ) (n : ℕ) → Ascending xs n → 0 < length xs → length xs ≤ last xs → Ascending (shrink s xs).samples (last xs)
  unfolding shrink
  shrink_ascends xs n a h e =
      by_last xs (length xs - 1) (omega arith) (λ p b l is.
      let f : length (p ++ (b ∷ [])) ≤ last (p ++ (b ∷ [])) = rw is at e in
      rw (is, last_snoc p b) (lower_ascends p b n (rw is at a) (omega (arith, length_snoc p b, last_snoc p b))))

  -- ---- grow

  grow_first : (n : ℕ) → 0 < n → Ascending (grow s [] n).samples n
  unfolding grow
  grow_first n h = ascending_snoc [] (g s 0 n) n (ascending_nil (g s 0 n)) (g_lt s 0 n h)

  grow_more : (p : List ℕ) (b n : ℕ) → Ascending (p ++ (b ∷ [])) n → suc (length p) < n → Ascending (grow s (p ++ (b ∷ [])) n).samples n
  unfolding grow
  grow_more p b n a h =
      let x : ℕ = g s (suc (length p)) n in
      rw (last_snoc p b, length_snoc p b, eqb-suc-zero (length p))
      (by_below b x
      (λ q. rw (lt-ltb b x q) (ascending_snoc (p ++ (b ∷ [])) x n (ascending_snoc p b x (ascending_init p b n a) q) (g_lt s (suc (length p)) n h)))
      (λ q. rw (le-ltb b x q)
      (ascending_snoc (lower s (p ++ (b ∷ [])) b).samples b n (lower_ascends p b n a (omega (arith, g_ge s (suc (length p)) n))) (ascending_last p b n a))))

  pub grow_ascends : (xs : List ℕ) (n : ℕ) → Ascending xs n → length xs < n → Ascending (grow s xs n).samples n
  grow_ascends [] n a h = grow_first n h
  grow_ascends (x ∷ xs) n a h =
      by_last (x ∷ xs) (length xs) refl (λ p b l is.
      rw is (grow_more p b n (rw is at a) (omega arith)))
