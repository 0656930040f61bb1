-- The number that comes in, as the passes find it: the smallest not below n, at most 2^30.
-- Assumes nothing.
use mathlib.Core.Path.{◌≡◌, refl, ap, sym, ◌∙◌}
use mathlib.Core.Bool.{Bool, true}
use mathlib.Core.List.{List, [], ◌∷◌}
use mathlib.Core.Option.{Option, none, some, get_or}
use Prim.Native.Nat.{ℕ, ◌^◌, ◌<◌, ◌≤◌, min}
use native.Mathlib.Omega.{arith}
use lib.ListN.{length}
use Rattle.lists.specs.Lists.{keep, below, not_below, occurrences, count_below, every, smallest, join}
use Rattle.lists.proofs.Tests.{below→lt, by_below, not_below_yes, not_below_no}
use Rattle.lists.proofs.Keeping.{All, all_every}
use Rattle.lists.proofs.Members.{occurrences_cons}
use Rattle.lists.proofs.Exchanges.{Least, least_exists}
use Rattle.orders.specs.Reservoirs.{incoming}
use Rattle.orders.specs.InnerPasses.{least, low_of}

abbrev at_most : ℕ → Option ℕ → ℕ
at_most d none = d
at_most d (some v) = min v d

least_smallest : (d : ℕ) (ys : List ℕ) → least d ys ≡ at_most d (smallest ys)
least_smallest d [] = refl
least_smallest d (x ∷ xs) = go (smallest xs) (least_smallest d xs)
  where
    go : (o : Option ℕ) → least d xs ≡ at_most d o → min x (least d xs) ≡ min (join min x o) d
    go none e = ap (min x) e
    go (some y) e = omega (arith, e)

all_occurrences : (p : ℕ → Bool) (v : ℕ) (xs : List ℕ) → All p xs → 0 < occurrences v xs → p v ≡ true
all_occurrences p v [] a h = absurd (omega arith)
all_occurrences p v (x ∷ xs) a h = occurrences_cons v x xs h (λ e. ap p e ∙ a.0) (λ t. all_occurrences p v xs a.1 t)

-- where not all are below n, and all are below some b up to 2^30
pub low_incoming : (n b : ℕ) (xs : List ℕ) → count_below n xs < length xs → b ≤ 4 ^ 15 → every (below b) xs ≡ true → (low_of n xs ≡ incoming n xs) × (incoming n xs < b)
unfolding low_of incoming
low_incoming n b xs h small a =
    let w : (v : ℕ) × (smallest (keep (not_below n) xs) ≡ some v) × Least n xs v = least_exists n xs h in
    let v : ℕ = w.0 in
    let e : smallest (keep (not_below n) xs) ≡ some v = w.1 in
    let l : v < b = below→lt (all_occurrences (below b) v xs (all_every (below b) xs a) w.2.listed) in
    let m : min v (4 ^ 15) ≡ v = omega arith in
    let f : least (4 ^ 15) (keep (not_below n) xs) ≡ v = least_smallest (4 ^ 15) (keep (not_below n) xs) ∙ ap (at_most (4 ^ 15)) e ∙ m in
    let g : get_or (smallest (keep (not_below n) xs)) 0 ≡ v = ap (λ (o : Option ℕ). get_or o 0) e in
    (f ∙ sym g, omega arith)

least_le : (d : ℕ) (xs : List ℕ) → least d xs ≤ d
least_le d [] = omega arith
least_le d (x ∷ xs) = omega (arith, least_le d xs)

pub low_le : (n : ℕ) (xs : List ℕ) → low_of n xs ≤ 4 ^ 15
unfolding low_of
low_le n xs = least_le (4 ^ 15) (keep (not_below n) xs)

least_from_lem : (q d : ℕ) → q ≤ d → (xs : List ℕ) → q ≤ least d (keep (not_below q) xs)
least_from_lem q d h [] = h
least_from_lem q d h (x ∷ xs) =
    by_below x q
    (λ l. rw (not_below_no x q l) (least_from_lem q d h xs))
    (λ l. rw (not_below_yes x q l) (omega (arith, least_from_lem q d h xs)))

pub low_from : (q : ℕ) → q ≤ 4 ^ 15 → (xs : List ℕ) → q ≤ low_of q xs
unfolding low_of
low_from q h xs = least_from_lem q (4 ^ 15) h xs
