-- The smallest hash of m or more, found bucket by bucket from the lowest up.
-- Assumes nothing.
use mathlib.Core.Path.{◌≡◌, refl, sym, ap, ◌∙◌}
use mathlib.Core.Bool.{true, false}
use mathlib.Core.List.{List, append-nil}
use mathlib.Core.Option.{Option, none, some}
use Prim.Native.Nat.{ℕ, suc, ◌+◌, ◌^◌, ◌≤◌, ◌<◌, min}
use native.Mathlib.Omega.{arith}
use native.Mathlib.Decide.{le_ind}
use native.Mathlib.Numerals.{add-one}
use Rattle.lists.specs.Lists.{keep, not_below, occurrences, join, smallest}
use Rattle.lists.proofs.Tests.{not_below_yes, not_below_no, by_test, by_below}
use Rattle.lists.proofs.Members.{keep_within, keep_none, keep_append}
use Rattle.lists.proofs.Extremes.{by_min, or_else, pick_first, picked_within}
use Rattle.hashes.specs.Hashes.{is_set, bucket, buckets, hashes}
use Rattle.hashes.specs.Next.{smallest_from}
use Rattle.hashes.specs.InnerSearch.{numbers_of, least_from, NextSet}
use Rattle.hashes.proofs.BucketLaws.{smallest_hash}
use Rattle.hashes.proofs.StateLaws.{bucket_set, bucket_clear, bucket_within, buckets_within}

-- the smallest hash of m or more in the first k buckets
unfoldable pub up_to : ℕ → ℕ → ℕ → Option ℕ
up_to s m k = smallest (keep (not_below m) (buckets s k))

-- ---- one bucket more

up_set : (s m k : ℕ) → is_set s k ≡ true → up_to s m (suc k) ≡ or_else (up_to s m k) (least_from m (numbers_of s k))
unfolding up_to buckets
up_set s m k e =
    ap smallest (keep_append (not_below m) (buckets s k) (bucket s k))
    ∙ pick_first by_min (keep (not_below m) (buckets s k)) (keep (not_below m) (bucket s k))
    (λ x y p q. let u = buckets_within s k x (keep_within (not_below m) x (buckets s k) p) in let v = bucket_within s k y (keep_within (not_below m) y (bucket s k) q) in omega (arith, u.1, v.0))
    ∙ ap (or_else (smallest (keep (not_below m) (buckets s k))))
    (ap (λ (xs : List ℕ). smallest (keep (not_below m) xs)) (bucket_set s k e) ∙ smallest_hash m (numbers_of s k))

up_clear : (s m k : ℕ) → is_set s k ≡ false → up_to s m (suc k) ≡ up_to s m k
unfolding up_to buckets
up_clear s m k e = rw (bucket_clear s k e, append-nil (buckets s k))

-- ---- many buckets

-- those below m have none
pub up_low : (s m k : ℕ) → 2 ^ k ≤ m → up_to s m k ≡ none
unfolding up_to
up_low s m k h = rw (keep_none (not_below m) (buckets s k) (λ z p. not_below_no z m (omega (arith, (buckets_within s k z p).1))))

up_more : (s m k x : ℕ) → up_to s m k ≡ some x → up_to s m (suc k) ≡ some x
up_more s m k x e =
    by_test (is_set s k)
    (λ y. up_set s m k y ∙ rw e)
    (λ n. up_clear s m k n ∙ e)

-- what is found stays found
pub up_stays : (s m x k j : ℕ) → k ≤ j → up_to s m k ≡ some x → up_to s m j ≡ some x
up_stays s m x k j h e = le_ind {n = k} (λ i. up_to s m i ≡ some x) e (λ i p ih. up_more s m i x ih) j h

-- buckets that are not set are passed over
pub up_skip : (s m k j : ℕ) → NextSet s k j → up_to s m j ≡ up_to s m k
up_skip s m k j t =
    le_ind {n = k} (λ i. i ≤ j → up_to s m i ≡ up_to s m k) (λ _. refl)
    (λ i p ih q. up_clear s m i (t.clear i p (omega arith)) ∙ ih (omega arith))
    j t.from (omega arith)

-- what is found is there
up_there : (s m k z : ℕ) → up_to s m k ≡ some z → 0 < occurrences z (buckets s k)
unfolding up_to
up_there s m k z e = picked_within by_min (not_below m) (buckets s k) z e

-- ---- all buckets

pub from_buckets : (s m : ℕ) → 0 < m → smallest_from s m ≡ up_to s m 63
unfolding smallest_from hashes up_to
from_buckets s m h = rw (not_below_no 0 m h)

join_zero : (o : Option ℕ) → join min 0 o ≡ 0
join_zero none = refl
join_zero (some y) = omega arith

pub from_zero : (s : ℕ) → smallest_from s 0 ≡ some 0
unfolding smallest_from hashes
from_zero s = rw (not_below_yes 0 0 (omega arith)) (ap some (join_zero (smallest (keep (not_below 0) (buckets s 63)))))

-- every hash is below 2^63
pub from_lt : (s m x : ℕ) → smallest_from s m ≡ some x → x < 2 ^ 63
from_lt s m x e =
    by_below 0 m
    (λ h. (buckets_within s 63 x (up_there s m 63 x (sym (from_buckets s m h) ∙ e))).1)
    (λ h. let z : m ≡ 0 = omega arith in let f = from_zero s in let q : x ≡ 0 = cc in omega arith)

-- ---- a turn of the search: bucket 2^j was opened

module _ (s m j : ℕ) (before : up_to s m j ≡ none) (is_set : is_set s j ≡ true) where
  after : up_to s m (suc j) ≡ least_from m (numbers_of s j)
  after = up_set s m j is_set ∙ rw before

  pub turn_found : (x : ℕ) → 0 < m → j < 63 → some x ≡ least_from m (numbers_of s j) → some x ≡ smallest_from s m
  turn_found x p h e = sym (from_buckets s m p ∙ up_stays s m x (suc j) 63 h (after ∙ sym e))

  pub turn_missed : none ≡ least_from m (numbers_of s j) → up_to s m (j + 1) ≡ none
  turn_missed e = rw (add-one j) (after ∙ sym e)
