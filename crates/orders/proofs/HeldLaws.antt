-- What a reservoir holds, over the orders alone: what comes in and goes out, what is listed afterwards, when none comes, and
-- the list at a higher layer.
-- Assumes nothing.
use mathlib.Core.Path.{◌≡◌, refl, sym, ap, ◌∙◌, subst}
use mathlib.Core.Bool.{Bool, true, false, true≢false}
use mathlib.Core.List.{List}
use mathlib.Core.Option.{some}
use Prim.Native.Nat.{ℕ, zero, suc, ◌+◌, ◌-◌, ◌^◌, ◌≤◌, ◌<◌}
use native.Mathlib.Nat.{add-suc, add-zero}
use native.Mathlib.Omega.{arith}
use lib.ListN.{length, take, get_or}
use Rattle.lists.specs.Lists.{keep, below, not_below, occurrences, smallest, up_to, replace, standing}
use Rattle.lists.proofs.Tests.{by_below}
use Rattle.lists.proofs.Keeping.{Stronger, all_keep, keep_length, below_below}
use Rattle.lists.proofs.Members.{occurrences_keep_no}
use Rattle.lists.proofs.Counting.{order_none, order_occurrences}
use Rattle.lists.proofs.Prefixes.{occurrences_up_to, occurrences_up_to_first, keep_up_to, up_to_count, up_to_long, up_to_all, up_to_ends, ends_end}
use Rattle.lists.proofs.Replacing.{replace_all, up_to_replace}
use Rattle.lists.proofs.Exchanges.{Least, least_exists, next_part, new_first}
use Rattle.orders.specs.Orders.{P}
use Rattle.orders.specs.Reservoirs.{counts, outputs}
use Rattle.orders.specs.InnerPasses.{arranged}
use Rattle.orders.proofs.LogLaws.{pow_up}
use Rattle.orders.proofs.OrderLaws.{arranged_order, arranged_later, low_outputs, P_at}
use Rattle.orders.proofs.CountsLaws.{counts_yes, counts_no, counts→lt, counts_more, counts_below, keep_counts}

-- the order of 0..4^m, up to and with its k-th number that passes a test
abbrev pub part : (ℕ → Bool) → ℕ → ℕ → ℕ → List ℕ
part p key m k = up_to p k (arranged key m)

-- by the test of the sample
abbrev pub held_at : ℕ → ℕ → ℕ → ℕ → List ℕ
held_at key m k n = part (counts n) key m k

-- Li(k), by the outputs below 4^i
abbrev pub inputs_at : ℕ → ℕ → ℕ → ℕ
inputs_at key i k = length (up_to (below (4 ^ i)) k (outputs key i))

-- ---- at the next sizes, for any test that no number from 4^m up passes

module _ (p : ℕ → Bool) (key m k : ℕ) (small : Stronger p (below (4 ^ m))) (many : k ≤ length (keep p (arranged key m))) where
  later : (e : ℕ) → Stronger p (below (4 ^ (m + e)))
  later e x y = below_below (pow_up m (m + e) (omega arith)) x (small x y)

  many_later : (e : ℕ) → k ≤ length (keep p (arranged key (m + e)))
  many_later e = omega (arith, ap length (arranged_later key p m small e))

  -- the list at the next size
  pub part_grow : (e : ℕ) → part p key (suc (m + e)) k
      ≡ replace (below (4 ^ (m + e))) (up_to (below (4 ^ (m + e))) (length (part p key (m + e) k)) (outputs key (m + e))) (part p key (m + e) k)
  unfolding arranged
  part_grow e = up_to_replace p (below (4 ^ (m + e))) (later e) k (outputs key (m + e)) (arranged key (m + e)) (many_later e)

  -- where that takes no output more, the list stays
  part_same : (e : ℕ) → length (part p key (m + e) k) ≡ k → inputs_at key (m + e) k ≡ k → part p key (suc (m + e)) k ≡ part p key (m + e) k
  part_same e l f =
      let i : ℕ = m + e in
      part_grow e
      ∙ ap (λ (c : ℕ). replace (below (4 ^ i)) (up_to (below (4 ^ i)) c (outputs key i)) (part p key i k)) l
      ∙ replace_all (below (4 ^ i)) (up_to (below (4 ^ i)) k (outputs key i)) (part p key i k) (f ∙ sym l)
      (up_to_all (below (4 ^ i)) k (outputs key i) (omega (arith, low_outputs key i, many_later e, keep_length p (arranged key i), (arranged_order key i).size)) f)

  -- layers that take no output more leave the list as it is
  module _ (full : length (part p key m k) ≡ k) where
    pub part_through : (e : ℕ) → ((i : ℕ) → m ≤ i → i < m + e → inputs_at key i k ≡ k) → part p key (m + e) k ≡ part p key m k
    part_through zero a = rw (add-zero m) refl
    part_through (suc e) a =
        let ih : part p key (m + e) k ≡ part p key m k = part_through e (λ i c d. a i c (omega arith)) in
        rw (add-suc m e) (part_same e (ap length ih ∙ full) (a (m + e) (omega arith) (omega arith)) ∙ ih)

    -- the first layer that takes more: its outputs up to the k-th with top bits 00, those replaced by the old list
    pub part_to : (e : ℕ) → ((i : ℕ) → m ≤ i → i < m + e → inputs_at key i k ≡ k)
        → part p key (suc (m + e)) k ≡ replace (below (4 ^ (m + e))) (up_to (below (4 ^ (m + e))) k (outputs key (m + e))) (part p key m k)
    part_to e a =
        let t : part p key (m + e) k ≡ part p key m k = part_through e a in
        part_grow e
        ∙ ap (λ (r : List ℕ). replace (below (4 ^ (m + e))) (up_to (below (4 ^ (m + e))) (length r) (outputs key (m + e))) r) t
        ∙ ap (λ (c : ℕ). replace (below (4 ^ (m + e))) (up_to (below (4 ^ (m + e))) c (outputs key (m + e))) (part p key m k)) full

-- ---- what is due

-- v is among the first k of P(v + 1)
abbrev pub Enters : ℕ → ℕ → ℕ → Type 0
Enters key k v = 0 < occurrences v (take k (P key (suc v)))

-- v is the smallest such number from n up
pub record Next (key k n v : ℕ) : Type 0 where
  pub large : n ≤ v
  pub enters : Enters key k v
  pub first : (u : ℕ) → n ≤ u → u < v → Enters key k u → ⊥

-- what is so of v, which comes in from the list l
pub record Comes (key m k n : ℕ) (l : List ℕ) (v : ℕ) : Type 0 where
  pub next : Next key k n v
  pub small : v < 4 ^ m
  -- the last listed number is the k-th of P(n)
  pub out : get_or l (length l - 1) 0 ≡ get_or (P key n) (k - 1) 0
  -- the list without its last, then without last numbers not below v + 1, is the list for v + 1
  pub list : take (standing (counts (suc v)) k l (length l - 1)) l ≡ held_at key m k (suc v)

-- ---- the list of a layer, by the test of the sample

module _ (key m k n : ℕ) (m-le : m ≤ 15) (k_le : k ≤ n) (n_le : n ≤ 4 ^ m) where
  limit : 4 ^ m ≤ 2 ^ 30
  limit = pow_up m 15 m-le

  arranged_at : (u : ℕ) → u ≤ 4 ^ m → P key u ≡ keep (counts u) (arranged key m)
  arranged_at u h = P_at key u m (omega (arith, limit)) h ∙ sym (keep_counts u (arranged key m))

  pub enough : k ≤ length (keep (counts n) (arranged key m))
  enough = omega (arith, ap length (keep_counts n (arranged key m)), (arranged_order key m).counts n n_le)

  pub held_count : length (keep (counts n) (held_at key m k n)) ≡ k
  held_count = up_to_count (counts n) k (arranged key m) enough

  pub held_long : k ≤ length (held_at key m k n)
  held_long = up_to_long (counts n) k (arranged key m) enough

  -- the numbers of the list that belong to the sample are the first k of P(n), in order
  pub held_sample : keep (counts n) (held_at key m k n) ≡ take k (P key n)
  held_sample = keep_up_to (counts n) k (arranged key m) ∙ ap (take k) (sym (arranged_at n n_le))

  -- a list longer than k has a waiting number
  pub waits : k < length (held_at key m k n) → (v : ℕ) × (smallest (keep (not_below n) (held_at key m k n)) ≡ some v) × Least n (held_at key m k n) v
  waits l = least_exists n (held_at key m k n) (omega (arith, held_count, ap length (keep_counts n (held_at key m k n))))

  -- with k listed numbers only, none below 4^m comes in
  pub none_enters : length (held_at key m k n) ≡ k → (u : ℕ) → n ≤ u → u < 4 ^ m → Enters key k u → ⊥
  none_enters e u a b c =
      let s : occurrences u (take k (P key (suc u))) ≡ occurrences u (take k (keep (counts (suc u)) (arranged key m))) = ap (λ (r : List ℕ). occurrences u (take k r)) (arranged_at (suc u) b) in
      omega (
        arith,
        occurrences_up_to_first (counts n) (counts (suc u)) (counts_more {n = n} {m = suc u} (omega arith)) u k (arranged key m),
        occurrences_keep_no (counts n) u (held_at key m k n) (counts_no u n a),
        ap (occurrences u) (all_keep (counts n) (held_at key m k n) (up_to_all (counts n) k (arranged key m) enough e)),
      )

-- one admission, where a number waits
module _ (key m k n : ℕ) (m-le : m ≤ 15) (k_le : suc k ≤ n) (n_le : n ≤ 4 ^ m) (v : ℕ) (w : Least n (held_at key m (suc k) n) v) where
  abbrev l : List ℕ
  l = held_at key m (suc k) n

  many : suc k ≤ length (keep (counts n) (arranged key m))
  many = enough key m (suc k) n m-le k_le n_le

  once : occurrences v (held_at key m (suc k) n) ≡ 1
  once = omega (arith, occurrences_up_to (counts n) v (suc k) (arranged key m), order_occurrences (arranged_order key m) v, w.listed)

  small_v : v < 4 ^ m
  small_v = by_below v (4 ^ m) (λ h. h) (λ h. absurd (omega (arith, order_none (arranged_order key m) v h, occurrences_up_to (counts n) v (suc k) (arranged key m), once)))

  new : (u : ℕ) → 0 < occurrences u (held_at key m (suc k) n) → counts (suc v) u ≡ true → counts n u ≡ false → u ≡ v
  new u a q p =
      by_below u n
      (λ h. absurd (true≢false (sym (counts_yes u n h) ∙ p)))
      (λ h. let s : u < suc v = counts→lt q in omega (arith, w.least u a h))

  comes_list : take (standing (counts (suc v)) (suc k) l (length l - 1)) l ≡ held_at key m (suc k) (suc v)
  comes_list =
      next_part (counts n) k (arranged key m) many (counts (suc v)) (counts_more (omega (arith, w.large))) v
      (counts_no v n w.large) (counts_yes v (suc v) (omega arith)) once new

  comes_first : 0 < occurrences v (take (suc k) (keep (counts (suc v)) (arranged key m)))
  comes_first =
      new_first (counts n) k (arranged key m) many (counts (suc v)) (counts_more (omega (arith, w.large))) v
      (counts_no v n w.large) (counts_yes v (suc v) (omega arith)) once new

  no_other : (u : ℕ) → n ≤ u → u < v → Enters key (suc k) u → ⊥
  no_other u a b c =
      let s : occurrences u (take (suc k) (P key (suc u))) ≡ occurrences u (take (suc k) (keep (counts (suc u)) (arranged key m))) =
      ap (λ (r : List ℕ). occurrences u (take (suc k) r)) (arranged_at key m (suc k) n m-le k_le n_le (suc u) (omega (arith, small_v))) in
      omega (arith, w.least u (omega (arith, occurrences_up_to_first (counts n) (counts (suc u)) (counts_more {n = n} {m = suc u} (omega arith)) u (suc k) (arranged key m))) a)

  comes_in : Comes key m (suc k) n l v
  comes_in =
      let e = up_to_ends (counts n) k (arranged key m) many in
      let s : suc k - 1 ≡ k = omega arith in
      record {
        next = record {
          large = w.large;
          enters = subst (λ (r : List ℕ). 0 < occurrences v (take (suc k) r)) (sym (arranged_at key m (suc k) n m-le k_le n_le (suc v) small_v)) comes_first;
          first = no_other;
        };
        small = small_v;
        out = ends_end e ∙ e.is_kth ∙ ap (λ (r : List ℕ). get_or r k 0) (sym (arranged_at key m (suc k) n m-le k_le n_le n n_le)) ∙ ap (λ (i : ℕ). get_or (P key n) i 0) (sym s);
        list = comes_list;
      }

pub comes : (key m k n : ℕ) → m ≤ 15 → 0 < k → k ≤ n → n ≤ 4 ^ m → (v : ℕ) → Least n (held_at key m k n) v → Comes key m k n (held_at key m k n) v
comes key m zero n m-le k0 k_le n_le v w = absurd (omega arith)
comes key m (suc k) n m-le k0 k_le n_le v w = comes_in key m k n m-le k_le n_le v w

-- ---- layers that take no output more

module _ (key m k n : ℕ) (k_le : k ≤ n) (n_le : n ≤ 4 ^ m) (full : length (held_at key m k n) ≡ k) where
  fits : k ≤ length (keep (counts n) (arranged key m))
  fits = omega (arith, ap length (keep_counts n (arranged key m)), (arranged_order key m).counts n n_le)

  -- they leave the list as it is
  pub grow_through : (e : ℕ) → ((i : ℕ) → m ≤ i → i < m + e → inputs_at key i k ≡ k) → held_at key (m + e) k n ≡ held_at key m k n
  grow_through e a = part_through (counts n) key m k (counts_below n_le) fits full e a

  -- the first that takes more
  pub grow_to_lem : (e : ℕ) → ((i : ℕ) → m ≤ i → i < m + e → inputs_at key i k ≡ k)
      → held_at key (suc (m + e)) k n ≡ replace (below (4 ^ (m + e))) (up_to (below (4 ^ (m + e))) k (outputs key (m + e))) (held_at key m k n)
  grow_to_lem e a = part_to (counts n) key m k (counts_below n_le) fits full e a

  -- and where none does, no number below 4^(m + e) comes in
  pub grow_none : (e : ℕ) → m + e ≤ 15 → ((i : ℕ) → m ≤ i → i < m + e → inputs_at key i k ≡ k)
      → (u : ℕ) → n ≤ u → u < 4 ^ (m + e) → Enters key k u → ⊥
  grow_none e b a = none_enters key (m + e) k n b k_le (omega (arith, n_le, pow_up m (m + e) (omega arith))) (ap length (grow_through e a) ∙ full)
