-- The list of a higher layer, seen from that layer's outputs alone: what comes in, where it ends, and how it is laid down in
-- place.
-- Assumes nothing.
use mathlib.Core.Path.{◌≡◌, refl, ap, sym, ◌∙◌}
use mathlib.Core.Bool.{true}
use mathlib.Core.List.{List, [], ◌∷◌}
use Prim.Native.Nat.{ℕ, zero, suc, ◌+◌, ◌-◌, ◌^◌, ◌<◌, ◌≤◌}
use native.Mathlib.Nat.{le_refl}
use native.Mathlib.Numerals.{add-one}
use native.Mathlib.Omega.{arith}
use lib.Dec.{ltb}
use lib.ListN.{length, take, drop, get_or, length-take}
use lib.Seq.{take-take, take-length, length-take-le, get_or-take}
use Rattle.lists.specs.Lists.{keep, below, not_below, count_below, every, up_to, replace, standing, last, written}
use Rattle.lists.proofs.Tests.{below_yes, below_no, below→lt, not_below_yes, not_below_no, by_test, by_below}
use Rattle.lists.proofs.Keeping.{All, Stronger, keep_keep, all_stronger, all_drop, all_at, every_all}
use Rattle.lists.proofs.Counting.{order_all}
use Rattle.lists.proofs.Prefixes.{keep_snoc_yes, up_to_take, up_to_count, all_up_to, Ends, up_to_ends, ends_length, ends_front, ends_end}
use Rattle.lists.proofs.Replacing.{replace_length, replace_at, replace_take, replace_front, replace_keep}
use Rattle.lists.proofs.Standing.{standing_same}
use Rattle.layers.specs.Layer.{size, layer}
use Rattle.orders.specs.declared.consistent_reservoir.ConsistentReservoir.{ConsistentReservoir}
use Rattle.orders.specs.Reservoirs.{counts, outputs, grown, incoming}
use Rattle.orders.specs.ReservoirCalls.{key_of, j_of, listed, sample}
use Rattle.orders.specs.InnerPasses.{outs, low_of, rank_of, laid_of}
use Rattle.orders.proofs.LogLaws.{size_suc, size_in, pow_up}
use Rattle.orders.proofs.OrderLaws.{outputs_order, low_outputs}
use Rattle.orders.proofs.CountsLaws.{counts_yes, not_counts→le, counts_below}
use Rattle.orders.proofs.AdmissionLaws.{grown_at}
use Rattle.orders.proofs.ScanLaws.{output_at}
use Rattle.orders.proofs.CoverLaws.{take_outs, length_outs, rank_no}
use Rattle.orders.proofs.CheckLaws.{Fits, used_some, all_count}
use Rattle.orders.proofs.LowLaws.{low_incoming}

-- ---- the outputs of layer i up to and with the k-th below 4^i

abbrev pub reached : ℕ → ℕ → ℕ → List ℕ
reached key i k = up_to (below (4 ^ i)) k (outputs key i)

module _ (key i k : ℕ) (kq : k ≤ 4 ^ i) where
  enough : k ≤ count_below (4 ^ i) (outputs key i)
  enough = omega (arith, low_outputs key i)

  -- no more inputs than the layer has
  pub reached_fits : length (reached key i k) ≤ size i
  reached_fits =
      omega (arith, ap length (up_to_take (below (4 ^ i)) k (outputs key i)), length-take (length (reached key i k)) (outputs key i), (outputs_order key i).size, size_suc i)

  pub reached_outs : (e : ℕ) → e ≤ length (reached key i k) → take e (reached key i k) ≡ outs key i 0 e
  reached_outs e h =
      ap (take e) (up_to_take (below (4 ^ i)) k (outputs key i))
      ∙ take-take e (length (reached key i k)) (outputs key i) h
      ∙ take_outs key i 0 (size i) e (omega (arith, reached_fits))

  pub reached_count : count_below (4 ^ i) (reached key i k) ≡ k
  reached_count = up_to_count (below (4 ^ i)) k (outputs key i) enough

  pub reached_at : (p : ℕ) → p < length (reached key i k) → get_or (reached key i k) p 0 ≡ layer i key p
  reached_at p h =
      ap (λ (s : List ℕ). get_or s p 0) (up_to_take (below (4 ^ i)) k (outputs key i))
      ∙ get_or-take (length (reached key i k)) (outputs key i) p 0 h
      ∙ output_at key i p (omega (arith, reached_fits))

  pub rank_all : rank_of key i (length (reached key i k)) ≡ k
  unfolding rank_of
  rank_all =
      ap (count_below (4 ^ i)) (sym (reached_outs (length (reached key i k)) (omega arith)) ∙ take-length (reached key i k)) ∙ reached_count

-- its last output has top bits 00, and k - 1 before it have
pub record Last (key i k : ℕ) : Type 0 where
  pub some_in : 0 < length (reached key i k)
  pub before : rank_of key i (length (reached key i k) - 1) ≡ k - 1
  pub zero_top_lem : layer i key (length (reached key i k) - 1) < 4 ^ i

reached_ends : (key i k : ℕ) → suc k ≤ 4 ^ i → Last key i (suc k)
unfolding rank_of
reached_ends key i k h =
    let s : List ℕ = reached key i (suc k) in
    let e : Ends (below (4 ^ i)) k (outputs key i) (reached key i (suc k)) = up_to_ends (below (4 ^ i)) k (outputs key i) (omega (arith, low_outputs key i)) in
    let c : count_below (4 ^ i) (reached key i (suc k)) ≡ suc (count_below (4 ^ i) e.front) =
    ap (count_below (4 ^ i)) e.whole ∙ keep_snoc_yes (below (4 ^ i)) e.front e.end e.passes in
    let b : e.end < 4 ^ i = below→lt e.passes in
    let at : get_or (reached key i (suc k)) (length (reached key i (suc k)) - 1) 0 ≡ layer i key (length (reached key i (suc k)) - 1) =
    reached_at key i (suc k) h (length (reached key i (suc k)) - 1) (omega (arith, ends_length e)) in
    record {
      some_in = omega (arith, ends_length e);
      before =
          ap (count_below (4 ^ i)) (sym (reached_outs key i (suc k) h (length (reached key i (suc k)) - 1) (omega arith)) ∙ ends_front e)
          ∙ omega (arith, reached_count key i (suc k) h);
      zero_top_lem = omega (arith, ends_end e);
    }

pub reached_last : (key i k : ℕ) → 0 < k → k ≤ 4 ^ i → Last key i k
reached_last key i zero p h = absurd (omega arith)
reached_last key i (suc k) p h = reached_ends key i k h

-- what is dropped from the end has not the top bits 00
pub rank_standing : (key i v k : ℕ) → 4 ^ i ≤ v → (p : ℕ) → p ≤ size i → rank_of key i (standing (counts (v + 1)) k (outputs key i) p) ≡ rank_of key i p
unfolding standing
rank_standing key i v k q zero h = refl
rank_standing key i v k q (suc p) h =
    by_test (ltb k (suc p))
    (λ a. by_test (counts (v + 1) (get_or (outputs key i) p 0))
    (λ b. rw (a, b))
    (λ b. rw (a, b)
    (rank_standing key i v k q p (omega arith)
    ∙ sym (rank_no key i p (omega (arith, output_at key i p (omega arith), not_counts→le {x = get_or (outputs key i) p 0} {n = v + 1} b))) ∙ ap (rank_of key i) (add-one p))))
    (λ a. rw a)

-- old entries below n do not wait, and the outputs that are kept all do
waiting_replace : (n q : ℕ) → 0 < n → n ≤ q → (s l : List ℕ) → All (below n) l → keep (not_below n) (replace (below q) s l) ≡ keep (not_below q) s
waiting_replace n q p h [] l a = refl
waiting_replace n q p h (x ∷ s) l a =
    let first : get_or l 0 0 < n = below→lt (all_at (below n) (below_yes 0 n p) l a 0) in
    by_below x q
    (λ t. rw (below_yes x q t, not_below_no x q t, not_below_no (get_or l 0 0) n first) (waiting_replace n q p h s (drop 1 l) (all_drop (below n) l a)))
    (λ t. let m : n ≤ x = omega arith in
    rw (below_no x q t, not_below_yes x q t, not_below_yes x n m) (ap (λ (z : List ℕ). x ∷ z) (waiting_replace n q p h s l a)))

-- ---- the new list, from a fitting record with k listed numbers
module _ (r : ConsistentReservoir) (i : ℕ) (l : List ℕ) (s : Fits r l) (full : r.used ≤ r.k) (low : i < 15) (high : j_of r < i) where
  n_quarter : r.n ≤ 4 ^ i
  n_quarter = omega (arith, s.shape.n_le, pow_up (suc (j_of r)) i high)

  pub k_quarter : r.k ≤ 4 ^ i
  k_quarter = omega (arith, n_quarter, s.shape.k_le)

  n_pos : 0 < r.n
  n_pos = omega (arith, s.shape.some_k, s.shape.k_le)

  olds : All (counts r.n) (listed r l)
  olds = all_count r l s full

  low_olds : All (below r.n) (listed r l)
  low_olds = all_stronger (counts r.n) (below r.n) (counts_below (le_refl r.n)) (listed r l) olds

  new_is : grown (key_of r) i r.k (listed r l) ≡ replace (below (4 ^ i)) (reached (key_of r) i r.k) (listed r l)
  new_is = grown_at (key_of r) i r.k (listed r l)

  pub grow_length : length (grown (key_of r) i r.k (listed r l)) ≡ length (reached (key_of r) i r.k)
  grow_length = ap length new_is ∙ replace_length (below (4 ^ i)) (reached (key_of r) i r.k) (listed r l)

  -- the sample is the old one
  pub grow_sample : keep (counts r.n) (grown (key_of r) i r.k (listed r l)) ≡ sample r l
  unfolding sample
  grow_sample =
      let p : Stronger (counts r.n) (below (4 ^ i)) = counts_below n_quarter in
      let e : length (listed r l) ≡ count_below (4 ^ i) (reached (key_of r) i r.k) =
      omega (arith, used_some r l s, length-take-le r.used l s.shape.used_le, reached_count (key_of r) i r.k k_quarter) in
      sym (keep_keep (counts r.n) (below (4 ^ i)) p (grown (key_of r) i r.k (listed r l)))
      ∙ ap (λ (z : List ℕ). keep (counts r.n) (keep (below (4 ^ i)) z)) new_is
      ∙ ap (keep (counts r.n)) (replace_keep (below (4 ^ i)) (reached (key_of r) i r.k) (listed r l) (all_stronger (counts r.n) (below (4 ^ i)) p (listed r l) olds) e)

  -- the smallest fresh output comes in
  pub grow_low : r.k < length (reached (key_of r) i r.k) → incoming r.n (grown (key_of r) i r.k (listed r l)) ≡ low_of (4 ^ i) (reached (key_of r) i r.k)
  unfolding incoming
  grow_low more =
      let small : every (below (4 ^ suc i)) (reached (key_of r) i r.k) ≡ true =
      every_all (below (4 ^ suc i)) _ (all_up_to (below (4 ^ i)) (below (4 ^ suc i)) r.k (outputs (key_of r) i) (order_all (outputs_order (key_of r) i))) in
      let c : count_below (4 ^ i) (reached (key_of r) i r.k) < length (reached (key_of r) i r.k) = omega (arith, reached_count (key_of r) i r.k k_quarter) in
      let w : keep (not_below r.n) (grown (key_of r) i r.k (listed r l)) ≡ keep (not_below (4 ^ i)) (reached (key_of r) i r.k) =
      ap (keep (not_below r.n)) new_is ∙ waiting_replace r.n (4 ^ i) n_pos n_quarter (reached (key_of r) i r.k) (listed r l) low_olds in
      rw w (sym (low_incoming (4 ^ i) (4 ^ suc i) (reached (key_of r) i r.k) c (omega (arith, size_in i low, size_suc i)) small).0)

  -- an entry, seen by a test above n
  grow_test : (v p : ℕ) → 4 ^ i ≤ v → p < length (reached (key_of r) i r.k)
      → counts (v + 1) (get_or (grown (key_of r) i r.k (listed r l)) p 0) ≡ counts (v + 1) (get_or (outputs (key_of r) i) p 0)
  grow_test v p q h =
      let a : get_or (reached (key_of r) i r.k) p 0 ≡ layer i (key_of r) p = reached_at (key_of r) i r.k k_quarter p h in
      let b : get_or (outputs (key_of r) i) p 0 ≡ layer i (key_of r) p = output_at (key_of r) i p (omega (arith, reached_fits (key_of r) i r.k k_quarter)) in
      let t : ℕ = count_below (4 ^ i) (take p (reached (key_of r) i r.k)) in
      rw (new_is, replace_at (below (4 ^ i)) (reached (key_of r) i r.k) (listed r l) p h, a, b)
      (by_below (layer i (key_of r) p) (4 ^ i)
      (λ y. rw (below_yes _ _ y, counts_yes (layer i (key_of r) p) (v + 1) (omega arith))
      (let old : get_or (listed r l) t 0 < r.n = below→lt (all_at (below r.n) (below_yes 0 r.n n_pos) (listed r l) low_olds t) in
      counts_yes (get_or (listed r l) t 0) (v + 1) (omega (arith, n_quarter))))
      (λ y. rw (below_no _ _ y)))

  -- so where it ends is found on the outputs
  pub grow_standing : (v : ℕ) → 4 ^ i ≤ v
      → standing (counts (v + 1)) r.k (grown (key_of r) i r.k (listed r l)) (length (reached (key_of r) i r.k) - 1)
      ≡ standing (counts (v + 1)) r.k (outputs (key_of r) i) (length (reached (key_of r) i r.k) - 1)
  grow_standing v q =
      standing_same (counts (v + 1)) (counts (v + 1)) r.k _ _ (length (reached (key_of r) i r.k) - 1) (λ p h. grow_test v p q (omega arith))

  -- the last old entry goes out
  pub grow_last : last (grown (key_of r) i r.k (listed r l)) ≡ get_or l (r.k - 1) 0
  unfolding last rank_of
  grow_last =
      let m : ℕ = length (reached (key_of r) i r.k) in
      let e = reached_last (key_of r) i r.k s.shape.some_k k_quarter in
      let a : get_or (reached (key_of r) i r.k) (m - 1) 0 ≡ layer i (key_of r) (m - 1) = reached_at (key_of r) i r.k k_quarter (m - 1) (omega (arith, e.some_in)) in
      let d : take (m - 1) (reached (key_of r) i r.k) ≡ outs (key_of r) i 0 (m - 1) = reached_outs (key_of r) i r.k k_quarter (m - 1) (omega arith) in
      let c : length (keep (below (4 ^ i)) (outs (key_of r) i 0 (m - 1))) ≡ r.k - 1 = e.before in
      rw (grow_length, new_is)
      (replace_at (below (4 ^ i)) (reached (key_of r) i r.k) (listed r l) (m - 1) (omega (arith, e.some_in))
      ∙ rw (a, below_yes _ _ e.zero_top_lem, d, c) (get_or-take r.used l (r.k - 1) 0 (omega (arith, used_some r l s, s.shape.some_k))))

  -- its first e entries are the layer's first e outputs laid over the list
  pub grow_laid : (e : ℕ) → e ≤ length (reached (key_of r) i r.k) → rank_of (key_of r) i e ≤ r.k
      → written (take e (grown (key_of r) i r.k (listed r l))) l ≡ laid_of (key_of r) i e l
  unfolding written laid_of rank_of
  grow_laid e h c =
      let t : take e (grown (key_of r) i r.k (listed r l)) ≡ replace (below (4 ^ i)) (outs (key_of r) i 0 e) l =
      ap (take e) new_is
      ∙ replace_take (below (4 ^ i)) e (reached (key_of r) i r.k) (listed r l)
      ∙ ap (λ (z : List ℕ). replace (below (4 ^ i)) z (listed r l)) (reached_outs (key_of r) i r.k k_quarter e h)
      ∙ replace_front (below (4 ^ i)) r.used (outs (key_of r) i 0 e) l (omega (arith, used_some r l s)) in
      let n : length (replace (below (4 ^ i)) (outs (key_of r) i 0 e) l) ≡ e = replace_length (below (4 ^ i)) (outs (key_of r) i 0 e) l ∙ length_outs (key_of r) i 0 e in
      rw (t, n)
