-- What admit and grow_layer leave, in the terms of their code.
-- Assumes nothing.
use mathlib.Core.Path.{◌≡◌, ap, sym, ◌∙◌}
use mathlib.Core.Bool.{true, false}
use mathlib.Core.List.{List}
use Rattle.std.specs.Prelude.{Some}
use mathlib.Core.Option.{none, some}
use Prim.Native.Nat.{ℕ, ◌+◌, ◌-◌, ◌^◌, ◌<◌, ◌≤◌}
use native.Mathlib.Omega.{arith}
use lib.ListN.{length, take, get_or, take-append-drop}
use lib.Seq.{take-length, take-take, get_or-take, length-take-le}
use borrow.Author.Tests.{lt-ltb, le-ltb, eq-eqb, ne_eqb}
use Rattle.answers.specs.Answers.{result, after, refused}
use Rattle.lists.specs.Lists.{standing, last, written}
use Rattle.lists.proofs.Standing.{standing_le, standing_same}
use Rattle.layers.specs.Layer.{size}
use Rattle.orders.specs.declared.consistent_reservoir.ConsistentReservoir.{ConsistentReservoir}
use Rattle.orders.specs.declared.scans.Scan.{Scan}
use Rattle.orders.specs.declared.scans.Wide.{Wide}
use Rattle.orders.specs.Reservoirs.{outputs, grown, wider, incoming, counts}
use Rattle.orders.specs.ReservoirCalls.{key_of, j_of, listed, sample, fitting, reservoir_of, exchange_by, exchange, admit_call, grow_to, grow_layer_call, reservoir_state}
use Rattle.orders.specs.InnerPasses.{low_of, rank_of, laid_of, scan_of, wide_of}
use Rattle.orders.proofs.LogLaws.{size_in, pow_up}
use Rattle.orders.proofs.CountsLaws.{keep_counts}
use Rattle.orders.proofs.AdmissionLaws.{zeros_at}
use Rattle.orders.proofs.CheckLaws.{Fits, fits_parts, used_some}
use Rattle.orders.proofs.WideLaws.{Found, found, scan_inputs}
use Rattle.orders.proofs.LowLaws.{low_incoming, low_le, low_from}
use Rattle.orders.proofs.GrowLaws.{reached, reached_fits, reached_last, rank_all, rank_standing, k_quarter, grow_length, grow_low, grow_standing, grow_last, grow_laid}

-- ---- an admit that does not grow
module _ (r : ConsistentReservoir) (l : List ℕ) (fit : fitting r l ≡ true) (more : r.k < r.used) (v : ℕ) (is : v ≡ low_of r.n (listed r l)) where
  facts : Fits r l
  facts = fits_parts r l fit

  used_is : length (listed r l) ≡ r.used
  used_is = length-take-le r.used l facts.shape.used_le

  v_comes : v ≡ incoming r.n (listed r l)
  unfolding sample
  v_comes =
      is ∙ (low_incoming r.n (size (j_of r)) (listed r l) (omega (arith, facts.sampled, used_is, ap length (keep_counts r.n (listed r l)))) (size_in (j_of r) facts.shape.j_low) facts.small).0

  pub here_v : v ≤ 4 ^ 15
  here_v = rw is (low_le r.n (listed r l))

  pub here_end : standing (counts (v + 1)) r.k (take (r.used - 1) l) (length (take (r.used - 1) l)) ≡ standing (counts (v + 1)) r.k l (r.used - 1)
  here_end =
      rw (length-take-le (r.used - 1) l (omega (arith, facts.shape.used_le)))
      (standing_same (counts (v + 1)) (counts (v + 1)) r.k (take (r.used - 1) l) l (r.used - 1) (λ i h. ap (counts (v + 1)) (get_or-take (r.used - 1) l i 0 h)))

  pub here_done : (u : ℕ) → u ≡ standing (counts (v + 1)) r.k l (r.used - 1)
      → after (result (some (v, get_or l (r.used - 1) 0))) (reservoir_state (reservoir_of (key_of r) r.k (v + 1) (j_of r) u) l) ≡ exchange r (j_of r) (listed r l) l
  unfolding exchange exchange_by written last
  here_done u e =
      let z : standing (counts (v + 1)) r.k (listed r l) (r.used - 1) ≡ u =
      standing_same (counts (v + 1)) (counts (v + 1)) r.k (listed r l) l (r.used - 1) (λ i h. ap (counts (v + 1)) (get_or-take r.used l i 0 (omega arith))) ∙ sym e in
      let le : u ≤ r.used - 1 = rw e (standing_le (counts (v + 1)) r.k l (r.used - 1)) in
      let w : get_or (listed r l) (r.used - 1) 0 ≡ get_or l (r.used - 1) 0 = get_or-take r.used l (r.used - 1) 0 (omega arith) in
      let t : take u (listed r l) ≡ take u l = take-take u r.used l (omega arith) in
      let m : length (take u l) ≡ u = length-take-le u l (omega (arith, facts.shape.used_le)) in
      rw (← v_comes, used_is, z, le-ltb (length l) u (omega (arith, facts.shape.used_le)), w, t, m, take-append-drop u l)

-- ---- an admit that grows
module _ (r : ConsistentReservoir) (w : Wide) (l : List ℕ)
    (p : (fitting r l ≡ true) × (r.used ≤ r.k) × (Some w ≡ wide_of (key_of r) r.k (j_of r))) where
  fact : Fits r l
  fact = fits_parts r l p.0

  goes : Found (key_of r) r.k (j_of r) w
  goes = found (key_of r) r.k (j_of r) w fact.shape.j_low p.2

  pub above_low : w.layer < 15
  above_low = goes.top

  kq : r.k ≤ 4 ^ w.layer
  kq = k_quarter r w.layer l fact p.1 above_low goes.high

  inputs_is : w.inputs ≡ length (reached (key_of r) w.layer r.k)
  inputs_is = goes.inputs ∙ ap length (zeros_at (key_of r) w.layer r.k)

  low_is : w.low ≡ low_of (4 ^ w.layer) (reached (key_of r) w.layer r.k)
  low_is = goes.lowest ∙ ap (low_of (4 ^ w.layer)) (zeros_at (key_of r) w.layer r.k)

  pub above_pos : 0 < w.inputs
  above_pos = omega (arith, inputs_is, (reached_last (key_of r) w.layer r.k fact.shape.some_k kq).some_in)

  pub above_fit : w.inputs - 1 ≤ size w.layer
  above_fit = omega (arith, inputs_is, reached_fits (key_of r) w.layer r.k kq)

  pub above_more : r.k < w.inputs
  above_more = omega (arith, goes.more, goes.inputs)

  pub above_v : w.low ≤ 4 ^ 15
  above_v = rw low_is (low_le (4 ^ w.layer) (reached (key_of r) w.layer r.k))

  v_from : 4 ^ w.layer ≤ w.low
  v_from = rw low_is (low_from (4 ^ w.layer) (pow_up w.layer 15 (omega (arith, above_low))) (reached (key_of r) w.layer r.k))

  pub above_k : (0 < r.k) × (r.k ≤ length l)
  above_k = (fact.shape.some_k, omega (arith, used_some r l fact, p.1, fact.shape.used_le))

  module _ (e : ℕ) (is : e ≡ standing (counts (w.low + 1)) r.k (outputs (key_of r) w.layer) (w.inputs - 1)) where
    pub end_le : e ≤ w.inputs - 1
    end_le = rw is (standing_le (counts (w.low + 1)) r.k (outputs (key_of r) w.layer) (w.inputs - 1))

    pub end_rank : r.k - 1 ≡ rank_of (key_of r) w.layer e
    end_rank =
        sym (ap (rank_of (key_of r) w.layer) is
        ∙ rank_standing (key_of r) w.layer w.low r.k v_from (w.inputs - 1) above_fit
        ∙ ap (λ (m : ℕ). rank_of (key_of r) w.layer (m - 1)) inputs_is
        ∙ (reached_last (key_of r) w.layer r.k fact.shape.some_k kq).before)

    above_is : exchange r w.layer (grown (key_of r) w.layer r.k (listed r l)) l
        ≡ exchange_by r w.layer (grown (key_of r) w.layer r.k (listed r l)) l w.low e
    unfolding exchange
    above_is =
        let more : r.k < length (reached (key_of r) w.layer r.k) = omega (arith, goes.more, ap length (zeros_at (key_of r) w.layer r.k)) in
        let v : incoming r.n (grown (key_of r) w.layer r.k (listed r l)) ≡ w.low =
        grow_low r w.layer l fact p.1 above_low goes.high more ∙ sym low_is in
        let m : length (grown (key_of r) w.layer r.k (listed r l)) ≡ w.inputs =
        grow_length r w.layer l fact p.1 above_low goes.high ∙ sym inputs_is in
        let t : standing (counts (w.low + 1)) r.k (grown (key_of r) w.layer r.k (listed r l)) (w.inputs - 1) ≡ e =
        rw (is, inputs_is) (grow_standing r w.layer l fact p.1 above_low goes.high w.low v_from) in
        rw (v, m, t)

    pub above_refused : length l < e → refused 4 (reservoir_state r l) ≡ exchange r w.layer (grown (key_of r) w.layer r.k (listed r l)) l
    unfolding exchange_by
    above_refused h = sym (above_is ∙ rw (lt-ltb (length l) e h))

    pub above_done : e ≤ length l → after (result (some (w.low, get_or l (r.k - 1) 0))) (reservoir_state (reservoir_of (key_of r) r.k (w.low + 1) w.layer e) (laid_of (key_of r) w.layer e l))
        ≡ exchange r w.layer (grown (key_of r) w.layer r.k (listed r l)) l
    unfolding exchange_by
    above_done h =
        let b : written (take e (grown (key_of r) w.layer r.k (listed r l))) l ≡ laid_of (key_of r) w.layer e l =
        grow_laid r w.layer l fact p.1 above_low goes.high e (omega (arith, end_le, inputs_is)) (omega (arith, end_rank)) in
        sym (above_is ∙ rw (le-ltb (length l) e h, grow_last r w.layer l fact p.1 above_low goes.high, b))

-- ---- the step to the next layer
module _ (r : ConsistentReservoir) (l : List ℕ) (p : (fitting r l ≡ true) × (r.used ≤ r.k) × (j_of r < 14))
    (s : Scan) (is : s ≡ scan_of (key_of r) (j_of r + 1) (4 ^ (j_of r + 1)) r.k) where
  raise_fact : Fits r l
  raise_fact = fits_parts r l p.0

  rq : r.k ≤ 4 ^ (j_of r + 1)
  rq = k_quarter r (j_of r + 1) l raise_fact p.1 (omega (arith, p.2)) (omega arith)

  end_is : s.inputs ≡ length (reached (key_of r) (j_of r + 1) r.k)
  end_is = scan_inputs (key_of r) (j_of r + 1) r.k s is ∙ ap length (zeros_at (key_of r) (j_of r + 1) r.k)

  pub raise_fit : s.inputs ≤ size (j_of r + 1)
  raise_fit = omega (arith, end_is, reached_fits (key_of r) (j_of r + 1) r.k rq)

  pub raise_rank : r.k ≡ rank_of (key_of r) (j_of r + 1) s.inputs
  raise_rank = sym (ap (rank_of (key_of r) (j_of r + 1)) end_is ∙ rank_all (key_of r) (j_of r + 1) r.k rq)

  length_is : length (grown (key_of r) (j_of r + 1) r.k (listed r l)) ≡ s.inputs
  length_is = grow_length r (j_of r + 1) l raise_fact p.1 (omega (arith, p.2)) (omega arith) ∙ sym end_is

  pub raise_refused : length l < s.inputs
      → refused 4 (reservoir_state r l) ≡ grow_to r (grown (key_of r) (j_of r + 1) r.k (listed r l)) l
  unfolding grow_to
  raise_refused h = rw (length_is, lt-ltb (length l) s.inputs h)

  pub raise_done : s.inputs ≤ length l
      → after (result tt) (reservoir_state (reservoir_of (key_of r) r.k r.n (j_of r + 1) s.inputs) (laid_of (key_of r) (j_of r + 1) s.inputs l))
      ≡ grow_to r (grown (key_of r) (j_of r + 1) r.k (listed r l)) l
  unfolding grow_to
  raise_done h =
      let xs : List ℕ = grown (key_of r) (j_of r + 1) r.k (listed r l) in
      let t : take s.inputs xs ≡ xs = ap (λ (m : ℕ). take m xs) (sym length_is) ∙ take-length xs in
      let b : written xs l ≡ laid_of (key_of r) (j_of r + 1) s.inputs l =
      ap (λ (z : List ℕ). written z l) (sym t)
      ∙ grow_laid r (j_of r + 1) l raise_fact p.1 (omega (arith, p.2)) (omega arith) s.inputs (omega (arith, end_is)) (omega (arith, raise_rank)) in
      rw (length_is, le-ltb (length l) s.inputs h, b)

-- ---- the calls, by what their tests found

pub admit_unfit : (r : ConsistentReservoir) (l : List ℕ) → fitting r l ≡ false → refused 12 (reservoir_state r l) ≡ admit_call r l
unfolding admit_call
admit_unfit r l e = rw e

pub admit_longer : (r : ConsistentReservoir) (l : List ℕ) → fitting r l ≡ true → r.k < r.used → exchange r (j_of r) (listed r l) l ≡ admit_call r l
unfolding admit_call
admit_longer r l e h = rw (e, lt-ltb r.k r.used h)

pub admit_none : (r : ConsistentReservoir) (l : List ℕ) → fitting r l ≡ true → r.used ≤ r.k → wider (key_of r) r.k (j_of r) ≡ none
    → after (result none) (reservoir_state (reservoir_of (key_of r) r.k r.n 14 r.used) l) ≡ admit_call r l
unfolding admit_call
admit_none r l e h f = rw (e, le-ltb r.k r.used h, f)

pub admit_grown : (r : ConsistentReservoir) (l : List ℕ) (w : Wide) → fitting r l ≡ true → r.used ≤ r.k → Some w ≡ wide_of (key_of r) r.k (j_of r)
    → exchange r w.layer (grown (key_of r) w.layer r.k (listed r l)) l ≡ admit_call r l
unfolding admit_call
admit_grown r l w e h f = rw (e, le-ltb r.k r.used h, (found (key_of r) r.k (j_of r) w (fits_parts r l e).shape.j_low f).is)

pub grow_unfit : (r : ConsistentReservoir) (l : List ℕ) → fitting r l ≡ false → refused 12 (reservoir_state r l) ≡ grow_layer_call r l
unfolding grow_layer_call
grow_unfit r l e = rw e

pub grow_seven : (r : ConsistentReservoir) (l : List ℕ) → fitting r l ≡ true → r.k < r.used → refused 7 (reservoir_state r l) ≡ grow_layer_call r l
unfolding grow_layer_call
grow_seven r l e h = rw (e, lt-ltb r.k r.used h)

pub grow_eight : (r : ConsistentReservoir) (l : List ℕ) → fitting r l ≡ true → r.used ≤ r.k → j_of r ≡ 14 → refused 8 (reservoir_state r l) ≡ grow_layer_call r l
unfolding grow_layer_call
grow_eight r l e h f = rw (e, le-ltb r.k r.used h, eq-eqb (j_of r) 14 f)

pub grow_raised : (r : ConsistentReservoir) (l : List ℕ) → fitting r l ≡ true → r.used ≤ r.k → (j_of r ≡ 14 → ⊥)
    → grow_to r (grown (key_of r) (j_of r + 1) r.k (listed r l)) l ≡ grow_layer_call r l
unfolding grow_layer_call
grow_raised r l e h f = rw (e, le-ltb r.k r.used h, ne_eqb (j_of r) 14 f)
