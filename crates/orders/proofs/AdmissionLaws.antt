-- An admit of a record reached from open: it brings in the number that is due and puts out the k-th of P(n).
-- Assumes nothing.
use mathlib.Core.Path.{◌≡◌, refl, sym, ap, ◌∙◌, subst}
use mathlib.Core.Bool.{Bool, false, cond}
use mathlib.Core.Logic.{◌⊎◌, inl, inr}
use mathlib.Core.List.{List}
use mathlib.Core.Option.{Option, none, some}
use Prim.Native.Nat.{ℕ, suc, ◌+◌, ◌-◌, ◌^◌, ◌≤◌, ◌<◌}
use native.Mathlib.Numerals.{add-one}
use native.Mathlib.Omega.{arith}
use borrow.Author.Tests.{lt-ltb, le-ltb, ltb-true, ltb-false}
use lib.Dec.{ltb}
use lib.ListN.{length, take}
use lib.Seq.{length-take-le}
use Rattle.answers.specs.Answers.{result, After, after, refused}
use Rattle.lists.specs.Lists.{keep, below, not_below, up_to, replace, standing, last, written, smallest, Exchanges}
use Rattle.lists.proofs.Tests.{by_below}
use Rattle.lists.proofs.Prefixes.{up_to_long}
use Rattle.lists.proofs.Replacing.{replace_length}
use Rattle.lists.proofs.Standing.{standing_le}
use Rattle.lists.proofs.Exchanges.{Least}
use Rattle.lists.proofs.Searching.{by_first}
use Rattle.orders.specs.declared.consistent_reservoir.ConsistentReservoir.{ConsistentReservoir}
use Rattle.orders.specs.Orders.{P}
use Rattle.orders.specs.Reservoirs.{incoming, outputs, up_to_zeros, grown, wider, due, kth, in_and_out, n_after, counts}
use Rattle.orders.specs.ReservoirCalls.{key_of, j_of, listed, sample, fitting, reservoir_of, exchange_by, exchange, admit_at, admit_call, reservoir_state, ReservoirState}
use Rattle.orders.specs.Admissions.{ChangesBy, Kept, ends_at, Short, Admits}
use Rattle.orders.proofs.LogLaws.{pow_up}
use Rattle.orders.proofs.OrderLaws.{zero_top_lem, low_outputs}
use Rattle.orders.proofs.HeldLaws.{held_at, inputs_at, Comes, comes, waits, held_long, grow_through, grow_to_lem, grow_none}
use Rattle.orders.proofs.DueLaws.{due_some, due_none, due_next, next_exchange}
use Rattle.orders.proofs.ReservoirLaws.{held_arranged, written_kept, sample_is, fitting_kept, list_at, used_is}

-- ---- an exchange

module _ (r : ConsistentReservoir) (l : List ℕ) (k0 : 0 < r.k) (k_le : r.k ≤ r.n) (i : ℕ) (n_le : r.n ≤ 4 ^ suc i) (i-le : i ≤ 14) (at : ends_at r ≡ some i) where
  -- an exchange by v, after which u places stand
  module _ (xs : List ℕ) (v : ℕ) (least : smallest (keep (not_below r.n) xs) ≡ some v) (c : Comes (key_of r) (suc i) r.k r.n xs v) where
    by_v : exchange r i xs l ≡ exchange_by r i xs l v (standing (counts (suc v)) r.k xs (length xs - 1))
    unfolding exchange incoming
    by_v = rw (least, add-one v)

    v_due : due (key_of r) r.k r.n ≡ some v
    v_due = due_some (key_of r) r.k r.n v c.next (omega (arith, c.small, pow_up (suc i) 15 (omega arith)))

    end_length : length (take (standing (counts (suc v)) r.k xs (length xs - 1)) xs) ≡ standing (counts (suc v)) r.k xs (length xs - 1)
    end_length = length-take-le _ xs (omega (arith, standing_le (counts (suc v)) r.k xs (length xs - 1)))

    too_short : length l < standing (counts (suc v)) r.k xs (length xs - 1) → Short r l (exchange r i xs l)
    unfolding exchange_by
    too_short h = record {
      v = v;
      j = i;
      is_due = v_due;
      j_le = i-le;
      at_layer = at;
      short = rw (add-one v) (omega (arith, end_length, ap length c.list, ap length (held_arranged (key_of r) i r.k (suc v) i-le)));
      is_refused = by_v ∙ rw (lt-ltb (length l) _ h);
    }

    exchanged : standing (counts (suc v)) r.k xs (length xs - 1) ≤ length l → Admits r (exchange r i xs l)
    unfolding exchange_by last kth
    exchanged h =
        let u : ℕ = standing (counts (suc v)) r.k xs (length xs - 1) in
        let e : exchange r i xs l ≡ after (result (some (v, last xs))) (reservoir_state (reservoir_of (key_of r) r.k (v + 1) i u) (written (take u xs) l)) =
        by_v ∙ rw (le-ltb (length l) u h) in
        let s : v + 1 ≤ 4 ^ suc i = omega (arith, c.small) in
        let t : take u xs ≡ held_at (key_of r) (suc i) r.k (v + 1) = rw (add-one v) c.list in
        subst (λ (a : After ReservoirState (Option (ℕ × ℕ))). Admits r a) (sym e) (record {
          answer_is = rw v_due (ap (λ (x : ℕ). result (some (v, x))) c.out);
          key_is = refl;
          k_is = refl;
          n_is = rw v_due refl;
          layer_is = rw at refl;
          kept = written_kept (key_of r) r.k (v + 1) i u (take u xs) l k0 (omega (arith, c.next.large)) s i-le (sym end_length) t;
        })

  -- from the list of layer i, which is longer than k
  exchange_kept : (xs : List ℕ) → xs ≡ held_at (key_of r) (suc i) r.k r.n → r.k < length xs → Short r l (exchange r i xs l) ⊎ Admits r (exchange r i xs l)
  exchange_kept xs e long =
      let w : (v : ℕ) × (smallest (keep (not_below r.n) (held_at (key_of r) (suc i) r.k r.n)) ≡ some v) × Least r.n (held_at (key_of r) (suc i) r.k r.n) v =
      waits (key_of r) (suc i) r.k r.n (omega arith) k_le n_le (omega (arith, ap length e)) in
      let v : ℕ = w.0 in
      let f : smallest (keep (not_below r.n) xs) ≡ some v = ap (λ (z : List ℕ). smallest (keep (not_below r.n) z)) e ∙ w.1 in
      let c : Comes (key_of r) (suc i) r.k r.n xs v =
      subst (λ (z : List ℕ). Comes (key_of r) (suc i) r.k r.n z v) (sym e) (comes (key_of r) (suc i) r.k r.n (omega arith) k0 k_le n_le v w.2) in
      by_below (length l) (standing (counts (suc v)) r.k xs (length xs - 1))
      (λ h. inl (too_short xs v f c h))
      (λ h. inr (exchanged xs v f c h))

-- ---- growth

pub zeros_at : (key i k : ℕ) → up_to_zeros key i k ≡ up_to (below (4 ^ i)) k (outputs key i)
unfolding up_to_zeros
zeros_at key i k = ap (λ (p : ℕ → Bool). up_to p k (outputs key i)) (zero_top_lem i)

pub grown_at : (key i k : ℕ) (olds : List ℕ) → grown key i k olds ≡ replace (below (4 ^ i)) (up_to (below (4 ^ i)) k (outputs key i)) olds
unfolding grown
grown_at key i k olds = (λ t. replace (zero_top_lem i t) (zeros_at key i k t) olds)

module _ (r : ConsistentReservoir) (l : List ℕ) (s : Kept r l) (full : r.used ≤ r.k) where
  pub k_listed : length (held_at (key_of r) (suc (j_of r)) r.k r.n) ≡ r.k
  k_listed =
      omega (arith, ap length (list_at r l s), used_is r l s, held_long (key_of r) (suc (j_of r)) r.k r.n (omega (arith, s.j_le)) s.k_le s.n_le)

  up : (i : ℕ) → j_of r < i → r.n ≤ 4 ^ i
  up i h = omega (arith, s.n_le, pow_up (suc (j_of r)) i h)

  -- a layer that is passed over takes just k outputs
  pub just_k : (i : ℕ) → j_of r < i → ltb r.k (length (up_to_zeros (key_of r) i r.k)) ≡ false → inputs_at (key_of r) i r.k ≡ r.k
  just_k i h f =
      omega (
        arith,
        ap length (zeros_at (key_of r) i r.k),
        ltb-false r.k (length (up_to_zeros (key_of r) i r.k)) f,
        up_to_long (below (4 ^ i)) r.k (outputs (key_of r) i) (omega (arith, low_outputs (key_of r) i, up i h, s.k_le)),
      )

  -- the list at the first layer i that takes more
  pub grown_held : (i : ℕ) → j_of r < i → i ≤ 14 → ((u : ℕ) → j_of r < u → u < i → ltb r.k (length (up_to_zeros (key_of r) u r.k)) ≡ false)
      → grown (key_of r) i r.k (listed r l) ≡ held_at (key_of r) (suc i) r.k r.n
  grown_held i a b z =
      let e : suc (j_of r) + (i - suc (j_of r)) ≡ i = omega arith in
      let g : held_at (key_of r) (suc (suc (j_of r) + (i - suc (j_of r)))) r.k r.n
      ≡ replace (below (4 ^ (suc (j_of r) + (i - suc (j_of r))))) (up_to (below (4 ^ (suc (j_of r) + (i - suc (j_of r))))) r.k (outputs (key_of r) (suc (j_of r) + (i - suc (j_of r))))) (held_at (key_of r) (suc (j_of r)) r.k r.n) =
      grow_to_lem (key_of r) (suc (j_of r)) r.k r.n s.k_le s.n_le k_listed (i - suc (j_of r)) (λ u c d. just_k u c (z u c (omega arith))) in
      grown_at (key_of r) i r.k (listed r l)
      ∙ ap (replace (below (4 ^ i)) (up_to (below (4 ^ i)) r.k (outputs (key_of r) i))) (list_at r l s)
      ∙ sym (rw e at g)

  -- none takes more: the same list is that of layer 14, and nothing is due
  none_kept : ends_at r ≡ none → ((u : ℕ) → j_of r < u → u < suc (j_of r) + (14 - j_of r) → ltb r.k (length (up_to_zeros (key_of r) u r.k)) ≡ false) → Admits r (admit_at r l none)
  none_kept at z =
      let e : suc (j_of r) + (14 - j_of r) ≡ 15 = omega (arith, s.j_le) in
      let h : (u : ℕ) → suc (j_of r) ≤ u → u < suc (j_of r) + (14 - j_of r) → inputs_at (key_of r) u r.k ≡ r.k = (λ u c d. just_k u c (z u c d)) in
      let g : held_at (key_of r) (suc (j_of r) + (14 - j_of r)) r.k r.n ≡ held_at (key_of r) (suc (j_of r)) r.k r.n =
      grow_through (key_of r) (suc (j_of r)) r.k r.n s.k_le s.n_le k_listed (14 - j_of r) h in
      let d : due (key_of r) r.k r.n ≡ none =
      due_none (key_of r) r.k r.n (λ u a b. grow_none (key_of r) (suc (j_of r)) r.k r.n s.k_le s.n_le k_listed (14 - j_of r) (omega arith) h u a (rw e b)) in
      record {
        answer_is = rw d refl;
        key_is = refl;
        k_is = refl;
        n_is = rw d refl;
        layer_is = rw at refl;
        kept = record {
          some_k = s.some_k;
          k_le = s.k_le;
          n_le = up 15 (omega (arith, s.j_le));
          j_le = omega arith;
          used_le = s.used_le;
          list_is = list_at r l s ∙ sym (rw e at g) ∙ sym (held_arranged (key_of r) 14 r.k r.n (omega arith));
        };
      }

  grow_kept : Short r l (admit_at r l (wider (key_of r) r.k (j_of r))) ⊎ Admits r (admit_at r l (wider (key_of r) r.k (j_of r)))
  unfolding wider
  grow_kept =
      by_first (λ i. ltb r.k (length (up_to_zeros (key_of r) i r.k))) (suc (j_of r)) (14 - j_of r)
      (λ i f a b y z.
      let g : grown (key_of r) i r.k (listed r l) ≡ held_at (key_of r) (suc i) r.k r.n = grown_held i a (omega arith) z in
      let long : r.k < length (grown (key_of r) i r.k (listed r l)) =
      omega (
        arith,
        ltb-true r.k (length (up_to_zeros (key_of r) i r.k)) y,
        ap length (zeros_at (key_of r) i r.k),
        ap length (grown_at (key_of r) i r.k (listed r l)),
        replace_length (below (4 ^ i)) (up_to (below (4 ^ i)) r.k (outputs (key_of r) i)) (listed r l),
      ) in
      subst (λ (o : Option ℕ). Short r l (admit_at r l o) ⊎ Admits r (admit_at r l o)) (sym f)
      (exchange_kept r l s.some_k s.k_le i (omega (arith, up i a)) (omega arith) (rw (le-ltb r.k r.used full) f) (grown (key_of r) i r.k (listed r l)) g long))
      (λ f z. subst (λ (o : Option ℕ). Short r l (admit_at r l o) ⊎ Admits r (admit_at r l o)) (sym f) (inr (none_kept (rw (le-ltb r.k r.used full) f) z)))

-- ---- admit

-- a record that does not fit its list
pub admit_unfit : (r : ConsistentReservoir) (l : List ℕ) → fitting r l ≡ false → admit_call r l ≡ refused 12 (reservoir_state r l)
unfolding admit_call
admit_unfit r l e = rw e

-- refused 4 for a list that is too short, else as the number that is due says
pub admit_kept : (r : ConsistentReservoir) (l : List ℕ) → Kept r l → Short r l (admit_call r l) ⊎ Admits r (admit_call r l)
unfolding admit_call
admit_kept r l s =
    subst (λ (b : Bool). Short r l (cond b (cond (ltb r.k r.used) (exchange r (j_of r) (listed r l) l) (admit_at r l (wider (key_of r) r.k (j_of r)))) (refused 12 (reservoir_state r l)))
    ⊎ Admits r (cond b (cond (ltb r.k r.used) (exchange r (j_of r) (listed r l) l) (admit_at r l (wider (key_of r) r.k (j_of r)))) (refused 12 (reservoir_state r l))))
    (sym (fitting_kept r l s))
    (by_below r.k r.used
    (λ h. subst (λ (b : Bool). Short r l (cond b (exchange r (j_of r) (listed r l) l) (admit_at r l (wider (key_of r) r.k (j_of r))))
    ⊎ Admits r (cond b (exchange r (j_of r) (listed r l) l) (admit_at r l (wider (key_of r) r.k (j_of r)))))
    (sym (lt-ltb r.k r.used h))
    (exchange_kept r l s.some_k s.k_le (j_of r) s.n_le s.j_le (rw (lt-ltb r.k r.used h)) (listed r l) (list_at r l s) (omega (arith, used_is r l s))))
    (λ h. subst (λ (b : Bool). Short r l (cond b (exchange r (j_of r) (listed r l) l) (admit_at r l (wider (key_of r) r.k (j_of r))))
    ⊎ Admits r (cond b (exchange r (j_of r) (listed r l) l) (admit_at r l (wider (key_of r) r.k (j_of r)))))
    (sym (le-ltb r.k r.used h)) (grow_kept r l s h)))

-- an admit that brings in v exchanges just the two that it names; the others keep their order
pub admit_exchange : (r : ConsistentReservoir) (l : List ℕ) → Kept r l → (r' : ConsistentReservoir) (l' : List ℕ) → Kept r' l' → key_of r' ≡ key_of r → r'.k ≡ r.k
    → (v : ℕ) → due (key_of r) r.k r.n ≡ some v → r'.n ≡ v + 1 → Exchanges (sample r l) (sample r' l') v (kth (key_of r) r.k r.n)
admit_exchange r l s r' l' s' ekey ek v d en =
    let before : sample r l ≡ take r.k (P (key_of r) r.n) = sample_is r l s in
    let now : sample r' l' ≡ take r.k (P (key_of r) (suc v)) = sample_is r' l' s' ∙ (λ i. take (ek i) (P (ekey i) ((en ∙ add-one v) i))) in
    let x = due_next (key_of r) r.k r.n v d in
    rw (before, now) (next_exchange (key_of r) r.k r.n v s.some_k s.k_le x.1 x.0)

-- by what is due: with none the sample stays
pub admit_changes : (r : ConsistentReservoir) (l : List ℕ) → Kept r l → (r' : ConsistentReservoir) (l' : List ℕ) → Kept r' l' → key_of r' ≡ key_of r → r'.k ≡ r.k
    → (o : Option ℕ) → due (key_of r) r.k r.n ≡ o → r'.n ≡ n_after r.n o → ChangesBy (sample r l) (sample r' l') (in_and_out (key_of r) r.k r.n o)
admit_changes r l s r' l' s' ekey ek none d en =
    sample_is r' l' s' ∙ (λ i. take (ek i) (P (ekey i) (en i))) ∙ sym (sample_is r l s)
admit_changes r l s r' l' s' ekey ek (some v) d en = admit_exchange r l s r' l' s' ekey ek v d en
