-- The largest hash below n, found bucket by bucket from the highest down.
-- Assumes nothing.
use mathlib.Core.Path.{◌≡◌, refl, sym, ap, ◌∙◌}
use mathlib.Core.Bool.{true, false}
use mathlib.Core.List.{List, [], append-nil}
use mathlib.Core.Option.{Option, none, some, get_or}
use Prim.Native.Nat.{ℕ, suc, ◌+◌, ◌-◌, ◌*◌, ◌/◌, ◌%◌, ◌^◌, ◌≤◌, ◌<◌, max}
use native.Mathlib.Omega.{arith}
use native.Mathlib.Decide.{le_ind}
use native.Mathlib.Nat.{mod-lt}
use lib.Bits.{bit_and, and_mask}
use lib.Count.{count_leading_zeros}
use lib.Pow.{pow_pos, pow_mono}
use Rattle.lists.specs.Lists.{keep, below, join, largest}
use Rattle.lists.proofs.Tests.{below_yes, below_no, by_below}
use Rattle.lists.proofs.Members.{keep_within, keep_none, keep_append}
use Rattle.lists.proofs.Extremes.{by_max, or_else, pick_second}
use Rattle.lists.proofs.Places.{ones_shr, bit_set, bit_clear, bits_same, less_pow, highest_place}
use Rattle.hashes.specs.Hashes.{feed, draw, is_set, bucket, buckets, hashes, prev}
use Rattle.hashes.specs.Calls.{prev_number}
use Rattle.hashes.specs.InnerSearch.{numbers_of, first_below, first_later, buckets_below, under}
use Rattle.hashes.proofs.BucketLaws.{largest_hash}
use Rattle.hashes.proofs.StateLaws.{numbers_open, set_yes, set_no, bucket_set, bucket_clear, bucket_within, buckets_within}

-- ---- one bucket more

get_d_or : (a b : Option ℕ) → get_or (or_else a b) 0 ≡ get_or a (get_or b 0)
get_d_or none b = refl
get_d_or (some x) b = refl

under_set : (s n k : ℕ) → is_set s k ≡ true → under s n (suc k) ≡ get_or (first_below n (numbers_of s k)) (under s n k)
unfolding under buckets
under_set s n k e =
    ap (λ (xs : List ℕ). get_or (largest xs) 0) (keep_append (below n) (buckets s k) (bucket s k))
    ∙ ap (λ (o : Option ℕ). get_or o 0) (pick_second by_max (keep (below n) (buckets s k)) (keep (below n) (bucket s k))
    (λ x y p q. let u = buckets_within s k x (keep_within (below n) x (buckets s k) p) in let v = bucket_within s k y (keep_within (below n) y (bucket s k) q) in omega (arith, u.1, v.0)))
    ∙ get_d_or (largest (keep (below n) (bucket s k))) (largest (keep (below n) (buckets s k)))
    ∙ ap (λ (o : Option ℕ). get_or o (get_or (largest (keep (below n) (buckets s k))) 0))
    (ap (λ (xs : List ℕ). largest (keep (below n) xs)) (bucket_set s k e) ∙ largest_hash n (numbers_of s k))

under_clear : (s n k : ℕ) → is_set s k ≡ false → under s n (suc k) ≡ under s n k
unfolding under buckets
under_clear s n k e = rw (bucket_clear s k e, append-nil (buckets s k))

-- a bucket that is not below n has none
under_far : (s n k : ℕ) → n ≤ 2 ^ k → under s n (suc k) ≡ under s n k
unfolding under buckets
under_far s n k h =
    let empty : keep (below n) (bucket s k) ≡ [] = keep_none (below n) (bucket s k) (λ z p. below_no z n (omega (arith, (bucket_within s k z p).0))) in
    rw (keep_append (below n) (buckets s k) (bucket s k), empty, append-nil (keep (below n) (buckets s k)))

under_none : (s n : ℕ) → under s n 0 ≡ 0
unfolding under buckets
under_none s n = refl

-- ---- many buckets

under_near : (s n j k : ℕ) → j ≤ k → n ≤ 2 ^ j → under s n k ≡ under s n j
under_near s n j k h e = le_ind {n = j} (λ i. under s n i ≡ under s n j) refl
    (λ i p ih. under_far s n i (omega (arith, pow_mono p)) ∙ ih) k h

under_skip : (s n j k : ℕ) → j ≤ k → s % 2 ^ k < 2 ^ j → under s n k ≡ under s n j
under_skip s n j k h e = le_ind {n = j} (λ i. s % 2 ^ i < 2 ^ j → under s n i ≡ under s n j) (λ _. refl)
    (λ i p ih q.
    let c = bit_clear s i (omega (arith, pow_mono p)) in
    under_clear s n i (set_no s i c.0) ∙ ih (omega (arith, c.1)))
    k h e

pub under_over : (s n k : ℕ) → s % 2 ^ k ≡ 0 → under s n k ≡ 0
under_over s n k e = under_skip s n 0 k (omega arith) (omega arith) ∙ under_none s n

-- of the low k bits of s the highest is j: bucket 2^j is opened
module _ (s n k j : ℕ) (lo : 2 ^ j ≤ s % 2 ^ k) (hi : s % 2 ^ k < 2 ^ suc j) where
  pub place_less : j < k
  place_less = less_pow j k (omega (arith, mod-lt s {m = 2 ^ k} (pow_pos k)))

  under_turn : under s n k ≡ get_or (first_below n (numbers_of s j)) (under s n j)
  under_turn =
      let e : s % 2 ^ k ≡ s % 2 ^ suc j = bits_same s (suc j) k place_less hi in
      under_skip s n (suc j) k place_less hi ∙ under_set s n j (set_yes s j (bit_set s j (omega arith)))

  pub under_hit : (d x : ℕ) → d ≡ draw (feed s (2 ^ j)) → x ≡ 2 ^ j + d % 2 ^ j → x < n → x ≡ under s n k
  under_hit d x e f h =
      let first : 2 ^ j + draw (feed s (2 ^ j)) % 2 ^ j < n = rw e at (rw f at h) in
      f ∙ rw e (sym (under_turn ∙ rw (numbers_open s j, below_yes _ n first)))

  pub under_miss : (d x : ℕ) → d ≡ draw (feed s (2 ^ j)) → x ≡ 2 ^ j + d % 2 ^ j → n ≤ x
      → first_later n j (under s n j) 255 d ≡ under s n k
  unfolding first_later
  under_miss d x e f h =
      let first : n ≤ 2 ^ j + draw (feed s (2 ^ j)) % 2 ^ j = rw e at (rw f at h) in
      rw e (sym (under_turn ∙ rw (numbers_open s j, below_no _ n first)))

-- where the low k bits lie below n, so does the first number of the highest of them
pub under_first : (s n k j d : ℕ) → 2 ^ k < n → 2 ^ j ≤ s % 2 ^ k → s % 2 ^ k < 2 ^ suc j → d ≡ draw (feed s (2 ^ j)) → 2 ^ j + d % 2 ^ j ≡ under s n k
under_first s n k j d h lo hi e =
    let m : 2 ^ suc j ≤ 2 ^ k = pow_mono (place_less s n k j lo hi) in
    under_hit s n k j lo hi d (2 ^ j + d % 2 ^ j) e refl (omega (arith, mod-lt d {m = 2 ^ j} (pow_pos j)))

-- ---- all buckets

join_zero : (o : Option ℕ) → join max 0 o ≡ get_or o 0
join_zero none = refl
join_zero (some y) = omega arith

-- 0 is a hash below every n above 0
prev_some : (s n : ℕ) → 0 < n → prev s n ≡ some (under s n 63)
unfolding prev hashes under
prev_some s n h = rw (below_yes 0 n h) (ap some (join_zero (largest (keep (below n) (buckets s 63)))))

pub prev_none : (s : ℕ) → prev s 0 ≡ none
unfolding prev
prev_none s = rw (keep_none (below 0) (hashes s) (λ z p. below_no z 0 (omega arith)))

number_under : (s n : ℕ) → prev_number s n ≡ under s n 63
unfolding prev_number
number_under s n =
    by_below 0 n
    (λ h. rw (prev_some s n h))
    (λ h. let e : n ≡ 0 = omega arith in rw (e, prev_none s) (sym (under_near s 0 0 63 (omega arith) (omega arith) ∙ under_none s 0)))

pub prev_is : (s n : ℕ) → 0 < n → prev s n ≡ some (prev_number s n)
prev_is s n h = prev_some s n h ∙ ap some (sym (number_under s n))

pub prev_small : (s n : ℕ) → n ≤ 1 → prev_number s n ≡ 0
prev_small s n h = number_under s n ∙ under_near s n 0 63 (omega arith) (omega arith) ∙ under_none s n

-- ---- of the 63 buckets only those below n count, for n up to 2^63

pub record Width (n : ℕ) : Type 0 where
  pub few : buckets_below n ≤ 63
  pub small : 2 ^ buckets_below n < 2 * n
  pub enough : n ≤ 2 ^ buckets_below n

pub width : (n : ℕ) → 1 < n → n ≤ 2 ^ 63 → Width n
unfolding buckets_below
width n h l =
    let z = count_leading_zeros 64 (n - 1) in
    let t = highest_place 64 (n - 1) (omega arith) (omega arith) in
    let low : 64 - 1 - z < 63 = less_pow (64 - 1 - z) 63 (omega (arith, t.1)) in
    let e : 64 - z ≡ suc (64 - 1 - z) = omega (arith, t.0) in
    record { few = omega arith; small = rw e (omega (arith, t.1)); enough = rw e (omega (arith, t.2)) }

pub prev_width : (s n : ℕ) → 1 < n → n ≤ 2 ^ 63 → prev_number s n ≡ under s n (buckets_below n)
prev_width s n h l = let w = width n h l in number_under s n ∙ under_near s n (buckets_below n) 63 w.few w.enough

-- the state's bits of those buckets, by a mask
pub width_masked : (s n : ℕ) → count_leading_zeros 64 (n - 1) ≤ 64 → bit_and s ((2 ^ 64 - 1) / 2 ^ count_leading_zeros 64 (n - 1)) ≡ s % 2 ^ buckets_below n
unfolding buckets_below
width_masked s n l = rw (ones_shr 64 (count_leading_zeros 64 (n - 1)) l) (and_mask s (64 - count_leading_zeros 64 (n - 1)))

-- the highest of them lies below n
pub high_less : (s n j : ℕ) → 1 < n → n ≤ 2 ^ 63 → 2 ^ j ≤ s % 2 ^ buckets_below n → s % 2 ^ buckets_below n < 2 ^ suc j → (j < 63) × (2 ^ j < n)
high_less s n j h l lo hi =
    let w = width n h l in
    let p : j < buckets_below n = place_less s n (buckets_below n) j lo hi in
    let m : 2 ^ suc j ≤ 2 ^ buckets_below n = pow_mono p in
    (omega (arith, w.few), omega (arith, w.small))
