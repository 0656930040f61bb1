-- What a fitting record is, in facts; and that the one pass finds it.
-- Assumes nothing.
use mathlib.Core.Path.{◌≡◌, refl, sym, ap, ◌∙◌}
use mathlib.Core.Bool.{Bool, true, false, ◌&&◌}
use Rattle.std.specs.Prelude.{None, Some}
use Rattle.std.specs.Option.{is_some}
use mathlib.Core.List.{List, [], ◌∷◌}
use Prim.Native.Nat.{ℕ, suc, ◌+◌, ◌*◌, ◌/◌, ◌^◌, ◌<◌, ◌≤◌, zero-le}
use native.Mathlib.Nat.{zero-add, div-add-mod'}
use native.Mathlib.Omega.{arith}
use lib.Arith.{bin_ind}
use lib.Pow.{pow_pos}
use lib.Bits.{bit_or, or_step, or_comm, or_lt}
use lib.Dec.{ltb, leb, eqb}
use lib.ListN.{length}
use lib.Seq.{length-take-le}
use borrow.Author.Tests.{lt-ltb, le-ltb, le-leb, ltb-true, leb-true, eqb-true}
use Rattle.lists.specs.Lists.{keep, below, every, last}
use Rattle.lists.proofs.Numbers.{four_pow_double}
use Rattle.lists.proofs.Tests.{below_yes, below_no, by_test, by_below}
use Rattle.lists.proofs.Keeping.{All, all_of_length, keep_length, both}
use Rattle.layers.specs.Layer.{size}
use Rattle.orders.specs.declared.consistent_reservoir.ConsistentReservoir.{ConsistentReservoir}
use Rattle.orders.specs.declared.checks.Survey.{Survey}
use Rattle.orders.specs.Reservoirs.{counts}
use Rattle.orders.specs.ReservoirCalls.{j_of, listed, sample, fitting}
use Rattle.orders.specs.InnerPasses.{or_all, low_of, survey_of, check_of}
use Rattle.orders.proofs.LogLaws.{size_suc}

-- ---- the test in two parts: what the record's numbers and the list's length decide, and what the listed numbers do

-- what of refusal 12 the record's numbers and the list's length decide
unfoldable pub shape_of : ConsistentReservoir → ℕ → Bool
shape_of r len = leb (j_of r) 14 && leb 1 r.k && leb r.k r.n && leb r.n (size (j_of r)) && leb r.used len

-- and what the pass found, and the last listed number
unfoldable pub close_of : ConsistentReservoir → Survey → ℕ → Bool
close_of r s x = eqb s.count r.k && ltb s.high (size (j_of r)) && ltb x r.n

-- ---- a fitting record, in facts

pub record Shape (r : ConsistentReservoir) (len : ℕ) : Type 0 where
  pub j_low : j_of r < 15
  pub some_k : 0 < r.k
  pub k_le : r.k ≤ r.n
  pub n_le : r.n ≤ 4 ^ suc (j_of r)
  pub used_le : r.used ≤ len

pub shape_parts : (r : ConsistentReservoir) (len : ℕ) → shape_of r len ≡ true → Shape r len
unfolding shape_of
shape_parts r len e =
    let a = both _ (leb r.used len) e in
    let b = both _ (leb r.n (size (j_of r))) a.0 in
    let c = both _ (leb r.k r.n) b.0 in
    let d = both (leb (j_of r) 14) (leb 1 r.k) c.0 in
    record {
      j_low = omega (arith, leb-true (j_of r) 14 d.0);
      some_k = leb-true 1 r.k d.1;
      k_le = leb-true r.k r.n c.1;
      n_le = rw (size_suc (j_of r)) at (leb-true r.n (size (j_of r)) b.1);
      used_le = leb-true r.used len a.1;
    }

of_shape : (r : ConsistentReservoir) (len : ℕ) → Shape r len → shape_of r len ≡ true
unfolding shape_of
of_shape r len s =
    simp (le-leb (j_of r) 14 (omega (arith, s.j_low)), le-leb 1 r.k s.some_k, le-leb r.k r.n s.k_le, le-leb r.n (size (j_of r)) (omega (arith, s.n_le, size_suc (j_of r))), le-leb r.used len s.used_le)

pub record Fits (r : ConsistentReservoir) (l : List ℕ) : Type 0 where
  pub shape : Shape r (length l)
  pub sampled : length (sample r l) ≡ r.k
  pub small : every (below (size (j_of r))) (listed r l) ≡ true
  pub last_low : last (listed r l) < r.n

-- the test, cut as the code cuts it
unfoldable rest : ConsistentReservoir → List ℕ → Bool
rest r l = eqb (length (sample r l)) r.k && every (below (size (j_of r))) (listed r l) && ltb (last (listed r l)) r.n

and_cut : (a b c d : Bool) → (a && b && c && d) ≡ (a && (b && c && d))
and_cut true b c d = refl
and_cut false b c d = refl

cut : (r : ConsistentReservoir) (l : List ℕ) → fitting r l ≡ (shape_of r (length l) && rest r l)
unfolding fitting shape_of rest
cut r l =
    and_cut (shape_of r (length l)) (eqb (length (sample r l)) r.k) (every (below (size (j_of r))) (listed r l)) (ltb (last (listed r l)) r.n)

pub fits_parts : (r : ConsistentReservoir) (l : List ℕ) → fitting r l ≡ true → Fits r l
unfolding rest
fits_parts r l e =
    let a = both (shape_of r (length l)) (rest r l) (sym (cut r l) ∙ e) in
    let b = both _ (ltb (last (listed r l)) r.n) a.1 in
    let c = both (eqb (length (sample r l)) r.k) (every (below (size (j_of r))) (listed r l)) b.0 in
    record {
      shape = shape_parts r (length l) a.0;
      sampled = eqb-true _ _ c.0;
      small = c.1;
      last_low = ltb-true _ _ b.1;
    }

pub used_some : (r : ConsistentReservoir) (l : List ℕ) → Fits r l → r.k ≤ r.used
unfolding sample
used_some r l s =
    omega (arith, s.sampled, keep_length (counts r.n) (listed r l), length-take-le r.used l s.shape.used_le)

-- with k listed numbers all belong to the sample
pub all_count : (r : ConsistentReservoir) (l : List ℕ) → Fits r l → r.used ≤ r.k → All (counts r.n) (listed r l)
unfolding sample
all_count r l s h =
    all_of_length (counts r.n) (listed r l)
    (omega (arith, s.sampled, used_some r l s, length-take-le r.used l s.shape.used_le))

-- ---- the or of all numbers, against a power of two

le_or : (a b : ℕ) → a ≤ bit_or a b
le_or a = bin_ind (λ (n : ℕ). (b : ℕ) → n ≤ bit_or n b) (λ b. zero-le) (λ n ih b. omega (arith, or_step n b, ih (b / 2), div-add-mod' n 2)) a

or_all_le : (h : ℕ) (xs : List ℕ) → h ≤ or_all h xs
or_all_le h [] = omega arith
or_all_le h (x ∷ xs) = omega (arith, le_or h x, or_all_le (bit_or h x) xs)

or_all_test : (m h : ℕ) (xs : List ℕ) → h < 2 ^ m → ltb (or_all h xs) (2 ^ m) ≡ every (below (2 ^ m)) xs
unfolding every
or_all_test m h [] p = lt-ltb h (2 ^ m) p
or_all_test m h (x ∷ xs) p =
    by_below x (2 ^ m)
    (λ l. rw (below_yes x (2 ^ m) l) (or_all_test m (bit_or h x) xs (or_lt m h x p l)))
    (λ l. rw (below_no x (2 ^ m) l) (le-ltb (or_all (bit_or h x) xs) (2 ^ m) (omega (arith, or_all_le (bit_or h x) xs, le_or x h, or_comm x h))))

or_size : (j : ℕ) (xs : List ℕ) → ltb (or_all 0 xs) (size j) ≡ every (below (size j)) xs
or_size j xs = rw (four_pow_double (j + 1)) (or_all_test (2 * (j + 1)) 0 xs (pow_pos (2 * (j + 1))))

-- the pass counts no more than it sees
pub count_le : (n : ℕ) (xs : List ℕ) (s : Survey) → s ≡ survey_of n xs → s.count ≤ length xs
unfolding survey_of
count_le n xs s e = omega (arith, ap (λ (t : Survey). t.count) e, keep_length (counts n) xs)

-- ---- the answers of the check

close_is : (r : ConsistentReservoir) (l : List ℕ) (s : Survey) → s ≡ survey_of r.n (listed r l) → close_of r s (last (listed r l)) ≡ rest r l
unfolding close_of rest survey_of sample
close_is r l s e =
    let a : 0 + length (keep (counts r.n) (listed r l)) ≡ length (keep (counts r.n) (listed r l)) = zero-add (length (keep (counts r.n) (listed r l))) in
    rw (e, a, or_size (j_of r) (listed r l))

check_no : (r : ConsistentReservoir) (l : List ℕ) → fitting r l ≡ false → None ≡ check_of r l
unfolding check_of
check_no r l e = rw e

pub no_shape : (r : ConsistentReservoir) (l : List ℕ) → shape_of r (length l) ≡ false → None ≡ check_of r l
no_shape r l e = check_no r l (cut r l ∙ rw e)

module _ (r : ConsistentReservoir) (l : List ℕ) (shape : Shape r (length l)) (s : Survey) (is : s ≡ survey_of r.n (listed r l)) where
  pub no_close : close_of r s (last (listed r l)) ≡ false → None ≡ check_of r l
  no_close e = check_no r l (cut r l ∙ rw (of_shape r (length l) shape) (sym (close_is r l s is) ∙ e))

  pub yes_close : close_of r s (last (listed r l)) ≡ true → Some s.low ≡ check_of r l
  unfolding check_of low_of survey_of
  yes_close e =
      let q : fitting r l ≡ true = cut r l ∙ rw (of_shape r (length l) shape) (sym (close_is r l s is) ∙ e) in
      rw (q, is)

-- what a caller of `checked` learns
pub checked_no : (r : ConsistentReservoir) (l : List ℕ) → None ≡ check_of r l → fitting r l ≡ false
unfolding check_of
checked_no r l e =
    by_test (fitting r l)
    (λ y. let z : None ≡ Some (low_of r.n (listed r l)) = rw y at e in absurd (cc))
    (λ n. n)

pub checked_yes : (r : ConsistentReservoir) (l : List ℕ) (v : ℕ) → Some v ≡ check_of r l → (fitting r l ≡ true) × (v ≡ low_of r.n (listed r l))
unfolding check_of
checked_yes r l v e =
    by_test (fitting r l)
    (λ y. let z : Some v ≡ Some (low_of r.n (listed r l)) = rw y at e in (y, cc))
    (λ n. let z : Some v ≡ None = rw n at e in absurd (cc))

pub checked_some : (r : ConsistentReservoir) (l : List ℕ) → is_some (check_of r l) ≡ fitting r l
unfolding check_of
checked_some r l = by_test (fitting r l) (λ y. rw y) (λ n. rw n)
