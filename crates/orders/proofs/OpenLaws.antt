-- What open and the sample leave, in the terms of their code.
-- Assumes nothing.
use mathlib.Core.Path.{◌≡◌, ap, ◌∙◌}
use mathlib.Core.Bool.{true, false, cond}
use mathlib.Core.List.{List}
use Prim.Native.Nat.{ℕ, ◌+◌, ◌^◌, ◌<◌, ◌≤◌}
use native.Mathlib.Numerals.{add-one}
use native.Mathlib.Omega.{arith}
use lib.ListN.{length}
use borrow.Author.Tests.{lt-ltb, le-ltb}
use lib.Dec.{ltb}
use Rattle.answers.specs.Answers.{refusal, result, after, refused, Answer}
use Rattle.answers.specs.Making.{by_sizes}
use Rattle.answers.proofs.MakingLaws.{Sizes, sizes_no, sizes_pass}
use Rattle.lists.specs.Lists.{keep, written}
use Rattle.orders.specs.declared.consistent_reservoir.ConsistentReservoir.{ConsistentReservoir}
use Rattle.orders.specs.declared.scans.Scan.{Scan}
use Rattle.orders.specs.Orders.{layer_of}
use Rattle.orders.specs.Reservoirs.{opening, counts}
use Rattle.orders.specs.ReservoirCalls.{listed, sample, fitting, reservoir_of, open_call, sample_call}
use Rattle.orders.specs.InnerPasses.{scan_of, arranged_over}
use Rattle.orders.proofs.LayLaws.{opening_length, opening_long, opening_fits, opening_arranged}

-- ---- open

module _ (key k n : ℕ) (l : List ℕ) where
  -- a refusal of the numbers is the open's
  pub open_no : (c : ℕ) → ◌≡◌ {A = Answer (Unit {0})} (refusal c) (by_sizes (2 ^ 30) 1 k n refusal (result tt)) → refused c l ≡ open_call k n key l
  unfolding open_call
  open_no c e = sizes_no (2 ^ 30) 1 k n tt c e (λ w. refused w l) _

  module _ (s : Sizes (2 ^ 30) 1 k n) where
    open_sized : open_call k n key l ≡ cond (ltb (length l) (length (opening key k n))) (refused 4 l) (after (result (reservoir_of key k n (layer_of n) (length (opening key k n)))) (written (opening key k n) l))
    unfolding open_call
    open_sized = sizes_pass (2 ^ 30) 1 k n (λ w. refused w l) _ s

    pub open_few : length l < k → refused 4 l ≡ open_call k n key l
    open_few h = rw (open_sized, lt-ltb (length l) (length (opening key k n)) (omega (arith, opening_long key k n s.limited s.few)))

    module _ (j : ℕ) (layer-is : j ≡ layer_of n) (c : Scan) (is : c ≡ scan_of key j n k) where
      inputs_open : c.inputs ≡ length (opening key k n)
      inputs_open =
          ap (λ (z : Scan). z.inputs) is ∙ ap (λ (i : ℕ). (scan_of key i n k).inputs) layer-is ∙ opening_length key k n (omega (arith, s.few, s.enough)) s.limited

      pub open_fit : c.inputs ≤ 4 ^ (j + 1)
      open_fit = rw (add-one j, inputs_open, layer-is) (opening_fits key k n s.limited)

      pub open_refused : length l < c.inputs → refused 4 l ≡ open_call k n key l
      open_refused h = rw (open_sized, ← inputs_open, lt-ltb (length l) c.inputs h)

      pub open_done : c.inputs ≤ length l → after (result (reservoir_of key k n j c.inputs)) (arranged_over key (j + 1) c.inputs l) ≡ open_call k n key l
      open_done h =
          rw (
            add-one j,
            inputs_open,
            layer-is,
            opening_arranged key k n l s.limited,
            open_sized,
            le-ltb (length l) (length (opening key k n)) (omega (arith, inputs_open)),
          )

-- ---- the sample

pub sample_unfit : (r : ConsistentReservoir) (l o : List ℕ) → fitting r l ≡ false → refused 12 o ≡ sample_call r l o
unfolding sample_call
sample_unfit r l o e = rw e

pub sample_short : (r : ConsistentReservoir) (l o : List ℕ) → fitting r l ≡ true → length o < r.k → refused 4 o ≡ sample_call r l o
unfolding sample_call
sample_short r l o e h = rw (e, lt-ltb (length o) r.k h)

pub sample_done : (r : ConsistentReservoir) (l o : List ℕ) → fitting r l ≡ true → r.k ≤ length o
    → after (result tt) (written (keep (counts r.n) (listed r l)) o) ≡ sample_call r l o
unfolding sample_call sample
sample_done r l o e h = rw (e, le-ltb (length o) r.k h)
