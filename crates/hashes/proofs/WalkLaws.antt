-- Each walk gives every hash on its way, in order, each once, then none for ever: over all calls, not one.
-- Assumes nothing.
use mathlib.Core.Path.{◌≡◌, refl, sym, ap, subst, ◌∙◌}
use mathlib.Core.Bool.{true, false, true≢false}
use mathlib.Core.List.{List, [], ◌∷◌}
use mathlib.Core.Option.{Option, none, some}
use Prim.Native.Nat.{ℕ, zero, suc, ◌+◌, ◌-◌, ◌^◌, ◌≤◌, ◌<◌}
use native.Mathlib.Omega.{arith}
use native.Mathlib.Numerals.{add-one}
use lib.Dec.{ltb}
use Rattle.answers.specs.Answers.{Answer, result}
use Rattle.answers.specs.Steps.{Step, answers, one_by_one}
use Rattle.lists.specs.Lists.{keep, not_below, occurrences, from}
use Rattle.lists.proofs.Tests.{not_below_yes, not_below_no, by_test, by_below}
use Rattle.lists.proofs.Members.{occurrences_cons, occurrences_keep_yes, keep_passes, keep_agree, keep_none}
use Rattle.lists.proofs.Extremes.{by_min, pick_is}
use Rattle.answers.proofs.AnswerLaws.{not_said, said_same}
use Rattle.answers.proofs.Turns.{Turn, ended, gave, all_answers}
use Rattle.hashes.specs.declared.ConsistentHashRevIterator.{ConsistentHashRevIterator}
use Rattle.hashes.specs.declared.ConsistentHashIterator.{ConsistentHashIterator}
use Rattle.hashes.specs.Hashes.{buckets, hashes, is_hash, prev}
use Rattle.hashes.specs.Next.{smallest_from}
use Rattle.hashes.specs.Calls.{limited, prev_number}
use Rattle.hashes.specs.Walks.{go_on_below, fall, hashes_below, rising_from, go_on_above, rise, hashes_from}
use Rattle.hashes.proofs.StateLaws.{buckets_within}
use Rattle.hashes.proofs.PrevLaws.{prev_none, prev_is}
use Rattle.hashes.proofs.LargestLaws.{hash_occurrences, no_hash_occurrences, prev_below, prev_suc_yes, prev_suc_no}
use Rattle.hashes.proofs.CallLaws.{fall_in}

abbrev said_of : {W : Type 0} → Step W → Answer (Option ℕ)
said_of t = t.answer

abbrev walk_of : {W : Type 0} → Step W → W
walk_of t = t.left

-- ---- falling

-- a hash, and those below it
abbrev down_from : ℕ → Option ℕ → List ℕ
down_from s none = []
down_from s (some x) = x ∷ hashes_below s x

below_open : (s n : ℕ) → hashes_below s n ≡ down_from s (prev s n)
unfolding hashes_below
below_open s zero = rw (prev_none s)
below_open s (suc n) =
    by_test (is_hash s n)
    (λ y. rw (y, prev_suc_yes s n y))
    (λ m. rw (m, prev_suc_no s n m) (below_open s n))

some_le : (s n x : ℕ) → prev s n ≡ some x → x ≤ n
some_le s n x e =
    by_below 0 n
    (λ p. let f = prev_is s n p in let q : x ≡ prev_number s n = cc in omega (arith, prev_below s n p))
    (λ p. let z : n ≡ 0 = omega arith in let f : prev s 0 ≡ some x = rw z at e in let g = prev_none s in let bad : ◌≡◌ {A = ℕ} 0 1 = cc in absurd (omega arith))

abbrev pub Falls : ConsistentHashRevIterator → Type 0
Falls w = w.n ≤ 2 ^ 62

abbrev pub below_of : ConsistentHashRevIterator → List ℕ
below_of w = hashes_below w.state w.n

pub fall_turn : (w : ConsistentHashRevIterator) → Falls w → Turn fall below_of Falls w
fall_turn w h = go (prev w.state w.n) refl
  where
    go : (o : Option ℕ) → prev w.state w.n ≡ o → Turn fall below_of Falls w
    go none e =
        let f : fall w ≡ go_on_below w none = fall_in w h ∙ ap (go_on_below w) e in
        let z : below_of w ≡ [] = below_open w.state w.n ∙ ap (down_from w.state) e in
        let stays : (fall w).left ≡ w = ap walk_of f in
        ended (ap said_of f) (rw stays h) (ap below_of stays ∙ z) z
    go (some x) e =
        let f : fall w ≡ go_on_below w (some x) = fall_in w h ∙ ap (go_on_below w) e in
        gave x (ap said_of f) (rw f (omega (arith, some_le w.state w.n x e)))
        (below_open w.state w.n ∙ ap (down_from w.state) e ∙ ap (λ (t : Step ConsistentHashRevIterator). x ∷ below_of t.left) (sym f))

-- "Falling ends with 0 (from n = 0 it gives none)": the walk from n gives every hash below n
pub falling_walk : (k s n : ℕ) → n ≤ 2 ^ 62 → answers fall k (record { state = s; n = n }) ≡ one_by_one k (hashes_below s n)
falling_walk k s n h = all_answers fall_turn k (record { state = s; n = n }) h

-- ---- rising

hashes_lt : (s z : ℕ) → 0 < occurrences z (hashes s) → z < 2 ^ 63
unfolding hashes
hashes_lt s z h = occurrences_cons z 0 (buckets s 63) h (λ e. omega arith) (λ t. (buckets_within s 63 z t).1)

pub smallest_here : (s m : ℕ) → is_hash s m ≡ true → smallest_from s m ≡ some m
unfolding smallest_from
smallest_here s m e =
    pick_is by_min (keep (not_below m) (hashes s)) m (record {
      there = omega (arith, occurrences_keep_yes (not_below m) m (hashes s) (not_below_yes m m (omega arith)), hash_occurrences s m e);
      best = λ z p. by_below z m (λ l. absurd (true≢false (sym (keep_passes (not_below m) z (hashes s) p) ∙ not_below_no z m l))) (λ l. l);
    })

smallest_on : (s m : ℕ) → is_hash s m ≡ false → smallest_from s m ≡ smallest_from s (suc m)
unfolding smallest_from
smallest_on s m e =
    let same : keep (not_below m) (hashes s) ≡ keep (not_below (suc m)) (hashes s) = keep_agree (not_below m) (not_below (suc m)) (hashes s) (λ z p.
    by_below z m
    (λ l. not_below_no z m l ∙ sym (not_below_no z (suc m) (omega arith)))
    (λ l. by_below m z
    (λ g. not_below_yes z m l ∙ sym (not_below_yes z (suc m) g))
    (λ g. let q : z ≡ m = omega arith in absurd (omega (arith, no_hash_occurrences s m e, rw q at p))))) in
    rw same

smallest_end : (s m : ℕ) → 2 ^ 63 ≤ m → smallest_from s m ≡ none
unfolding smallest_from
smallest_end s m h = rw (keep_none (not_below m) (hashes s) (λ z p. not_below_no z m (omega (arith, hashes_lt s z p))))

-- a hash, and those above it
abbrev up_from : ℕ → Option ℕ → List ℕ
up_from s none = []
up_from s (some x) = x ∷ hashes_from s (x + 1)

from_count : (s c m : ℕ) → 2 ^ 63 - m ≡ c → keep (is_hash s) (from m c) ≡ up_from s (smallest_from s m)
unfolding hashes_from
from_count s zero m e = rw (smallest_end s m (omega arith))
from_count s (suc c) m e =
    by_test (is_hash s m)
    (λ y. let d : 2 ^ 63 - suc m ≡ c = omega arith in rw (y, smallest_here s m y, add-one m, d))
    (λ n. rw (n, smallest_on s m n) (from_count s c (suc m) (omega arith)))

from_open : (s m : ℕ) → hashes_from s m ≡ up_from s (smallest_from s m)
unfolding hashes_from
from_open s m = from_count s (2 ^ 63 - m) m refl

abbrev pub Rises : ConsistentHashIterator → Type 0
Rises w = Unit {0}

abbrev pub above_of : ConsistentHashIterator → List ℕ
above_of w = hashes_from w.state w.low

pub rise_turn : (w : ConsistentHashIterator) → Rises w → Turn rise above_of Rises w
unfolding rise
rise_turn w h = go (smallest_from w.state w.low) refl
  where
    go : (o : Option ℕ) → smallest_from w.state w.low ≡ o → Turn rise above_of Rises w
    go none e =
        let f : rise w ≡ go_on_above w none = ap (go_on_above w) e in
        let z : above_of w ≡ [] = from_open w.state w.low ∙ ap (up_from w.state) e in
        ended (ap said_of f) tt (ap (λ (t : Step ConsistentHashIterator). above_of t.left) f ∙ z) z
    go (some x) e =
        let f : rise w ≡ go_on_above w (some x) = ap (go_on_above w) e in
        gave x (ap said_of f) tt
        (from_open w.state w.low ∙ ap (up_from w.state) e ∙ ap (λ (t : Step ConsistentHashIterator). x ∷ above_of t.left) (sym f))

-- the walk from its `low` gives every hash from there up
pub rising_walk : (k s m : ℕ) → answers rise k (record { state = s; low = m }) ≡ one_by_one k (hashes_from s m)
rising_walk k s m = all_answers rise_turn k (record { state = s; low = m }) tt

-- from `new n`: every hash from n up
pub rising_walk_new : (k n s : ℕ) (w : ConsistentHashIterator) → rising_from n s ≡ result w → answers rise k w ≡ one_by_one k (hashes_from s n)
unfolding limited
rising_walk_new k n s w e =
    by_test (ltb (2 ^ 62) n)
    (λ y. not_said 1 w (rw y at e))
    (λ m. subst (λ (z : ConsistentHashIterator). answers rise k z ≡ one_by_one k (hashes_from s n)) (said_same (record { state = s; low = n }) w (rw m at e)) (rising_walk k s n))
