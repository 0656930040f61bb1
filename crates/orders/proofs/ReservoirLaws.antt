-- A record reached from open: it lists what layer j gives up to and with the k-th number below n. So it is never refused 12, and
-- its sample is the first k of P(n).
-- Assumes nothing.
use mathlib.Core.Path.{◌≡◌, refl, sym, ap, ◌∙◌}
use mathlib.Core.Bool.{true}
use mathlib.Core.List.{List}
use Prim.Native.Nat.{ℕ, suc, ◌-◌, ◌^◌, ◌≤◌, ◌<◌}
use native.Mathlib.Omega.{arith}
use borrow.Author.Tests.{lt-ltb, le-leb, eq-eqb}
use lib.Dec.{ltb}
use lib.ListN.{length, take, drop, length-append}
use lib.Seq.{take_at, length-take-le}
use Rattle.answers.proofs.MakingLaws.{Sizes, sizes_by}
use Rattle.answers.specs.Answers.{result, After, after, refused}
use Rattle.lists.specs.Lists.{keep, below, every, up_to, last, written}
use Rattle.lists.proofs.Tests.{by_cond}
use Rattle.lists.proofs.Keeping.{every_all}
use Rattle.lists.proofs.Counting.{order_all}
use Rattle.lists.proofs.Prefixes.{all_up_to, up_to_ends, ends_end}
use Rattle.layers.specs.Layer.{size}
use Rattle.orders.specs.declared.consistent_reservoir.ConsistentReservoir.{ConsistentReservoir}
use Rattle.orders.specs.Orders.{layer_of, P}
use Rattle.orders.specs.Reservoirs.{opening, held, counts}
use Rattle.orders.specs.ReservoirCalls.{key_of, j_of, listed, sample, fitting, reservoir_of, open_call}
use Rattle.orders.specs.Admissions.{Kept, Opened}
use Rattle.orders.specs.InnerPasses.{arranged}
use Rattle.orders.proofs.LogLaws.{size_suc, layer_fits, layer_in, pow_up}
use Rattle.orders.proofs.OrderLaws.{arranged_order, whole_arranged, P_size}
use Rattle.orders.proofs.CountsLaws.{counts→lt}
use Rattle.orders.proofs.HeldLaws.{held_at, enough, held_count, held_sample}

-- ---- what is kept from call to call

pub held_arranged : (key j k n : ℕ) → j ≤ 14 → held key j k n ≡ held_at key (suc j) k n
unfolding held
held_arranged key j k n h = ap (up_to (counts n) k) (whole_arranged key j h)

-- xs written over a list
pub written_take : (xs l : List ℕ) → take (length xs) (written xs l) ≡ xs
unfolding written
written_take xs l = take_at xs (drop (length xs) l) (length xs) refl

written_long : (xs l : List ℕ) → length xs ≤ length (written xs l)
unfolding written
written_long xs l = omega (arith, length-append xs (drop (length xs) l))

-- a record whose list has just been written
pub written_kept : (key k n j u : ℕ) (xs l : List ℕ) → 0 < k → k ≤ n → n ≤ 4 ^ suc j → j ≤ 14 → u ≡ length xs → xs ≡ held_at key (suc j) k n
    → Kept (reservoir_of key k n j u) (written xs l)
written_kept key k n j u xs l k0 kn nj jj e h = record {
  some_k = k0;
  k_le = kn;
  n_le = nj;
  j_le = jj;
  used_le = omega (arith, written_long xs l);
  list_is = ap (λ (i : ℕ). take i (written xs l)) e ∙ written_take xs l ∙ h ∙ sym (held_arranged key j k n jj);
}

module _ (r : ConsistentReservoir) (l : List ℕ) (s : Kept r l) where
  pub list_at : listed r l ≡ held_at (key_of r) (suc (j_of r)) r.k r.n
  list_at = s.list_is ∙ held_arranged (key_of r) (j_of r) r.k r.n s.j_le

  pub used_is : length (listed r l) ≡ r.used
  used_is = length-take-le r.used l s.used_le

  -- n is at most 2^30
  pub n_in : r.n ≤ 2 ^ 30
  n_in = omega (arith, s.n_le, pow_up (suc (j_of r)) 15 (omega (arith, s.j_le)))

  -- the sample is the first k of P(n), and has k numbers
  pub sample_is : sample r l ≡ take r.k (P (key_of r) r.n)
  unfolding sample
  sample_is =
      ap (keep (counts r.n)) list_at
      ∙ held_sample (key_of r) (suc (j_of r)) r.k r.n (omega (arith, s.j_le)) s.k_le s.n_le

  pub sample_length : length (sample r l) ≡ r.k
  unfolding sample
  sample_length =
      ap (λ (z : List ℕ). length (keep (counts r.n) z)) list_at
      ∙ held_count (key_of r) (suc (j_of r)) r.k r.n (omega (arith, s.j_le)) s.k_le s.n_le

  all_small : every (below (size (j_of r))) (listed r l) ≡ true
  all_small =
      ap (λ (i : ℕ). every (below i) (listed r l)) (size_suc (j_of r))
      ∙ ap (every (below (4 ^ suc (j_of r)))) list_at
      ∙ every_all (below (4 ^ suc (j_of r))) _
      (all_up_to (counts r.n) (below (4 ^ suc (j_of r))) r.k (arranged (key_of r) (suc (j_of r))) (order_all (arranged_order (key_of r) (suc (j_of r)))))

  last_low : (k : ℕ) → r.k ≡ suc k → last (listed r l) < r.n
  unfolding last
  last_low k e =
      let f : listed r l ≡ held_at (key_of r) (suc (j_of r)) (suc k) r.n = list_at ∙ ap (λ (i : ℕ). held_at (key_of r) (suc (j_of r)) i r.n) e in
      let t = up_to_ends (counts r.n) k (arranged (key_of r) (suc (j_of r))) (omega (arith, e, enough (key_of r) (suc (j_of r)) r.k r.n (omega (arith, s.j_le)) s.k_le s.n_le)) in
      let g : last (listed r l) ≡ t.end = ap last f ∙ ends_end t in
      let b : t.end < r.n = counts→lt t.passes in
      omega arith

  -- it is never refused 12
  pub fitting_kept : fitting r l ≡ true
  unfolding fitting
  fitting_kept =
      let z : r.n ≤ size (j_of r) = rw (size_suc (j_of r)) s.n_le in
      rw (
        le-leb (j_of r) 14 s.j_le,
        le-leb 1 r.k s.some_k,
        le-leb r.k r.n s.k_le,
        le-leb r.n (size (j_of r)) z,
        le-leb r.used (length l) s.used_le,
        eq-eqb (length (sample r l)) r.k sample_length,
        all_small,
        lt-ltb (last (listed r l)) r.n (last_low (r.k - 1) (omega (arith, s.some_k))),
      ) refl

-- ---- open

pub opening_held : (key k n : ℕ) → n ≤ 2 ^ 30 → opening key k n ≡ held_at key (suc (layer_of n)) k n
unfolding opening
opening_held key k n h =
    ap (up_to (counts n) k) (P_size key (layer_of n) (layer_in n h) ∙ whole_arranged key (layer_of n) (layer_in n h))

-- any property of what an open says and leaves, by cases: a refusal leaves the list
pub open_kept : (Q : After (List ℕ) ConsistentReservoir → Type 0) (k n key : ℕ) (l : List ℕ) → ((c : ℕ) → Q (refused c l))
    → ((r : ConsistentReservoir) (l' : List ℕ) → Opened key k n r l' → Q (after (result r) l')) → Q (open_call k n key l)
unfolding open_call
open_kept Q k n key l out in' =
    sizes_by (2 ^ 30) 1 k n Q (λ w. refused w l) _ (λ y. out 1) (λ y. out 2) (λ y. out 3)
    (λ (s : Sizes (2 ^ 30) 1 k n). by_cond Q (ltb (length l) (length (opening key k n))) _ _ (λ y. out 4)
    (λ m. in' (reservoir_of key k n (layer_of n) (length (opening key k n))) (written (opening key k n) l) (record {
      key_is = refl;
      k_is = refl;
      n_is = refl;
      layer_is = refl;
      kept = written_kept key k n (layer_of n) (length (opening key k n)) (opening key k n) l (omega (arith, s.few, s.enough)) s.few (layer_fits n) (layer_in n s.limited) refl (opening_held key k n s.limited);
    })))
