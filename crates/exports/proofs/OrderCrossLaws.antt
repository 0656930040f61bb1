-- An order's words as its code writes them, and the number of its first numbers.
-- Assumes nothing.
use mathlib.Core.Path.{◌≡◌}
use mathlib.Core.List.{List}
use Prim.Native.Nat.{ℕ, ◌+◌, ◌%◌, ◌^◌, ◌≤◌, ◌<◌}
use borrow.Author.Tests.{lt-ltb, le-ltb}
use lib.ListN.{length, take}
use Rattle.lists.specs.Lists.{written}
use Rattle.lists.specs.Lists.{zero_to}
use Rattle.lists.proofs.Listing.{listing_at}
use Rattle.lists.proofs.Writing.{sets, sets_written}
use Rattle.std.proofs.lemmas.List.{ext_get_or, drop-drop}
use borrow.Rule.Slice.PartMut.{put_mid}
use Rattle.std.proofs.Common.{arith, ap, map, get_or, sym, ◌/◌, ◌∷◌, [], ◌++◌}
use Rattle.orders.specs.OrderCalls.{key_of}
use Rattle.orders.specs.declared.consistent_permutation.ConsistentPermutation.{ConsistentPermutation}
use Rattle.orders.specs.Orders.{P}
use Rattle.exports.specs.Coded.{coded_number, fed_all, digest}
use Rattle.exports.specs.Orders.{order_words, order_digest}

-- ---- the words

pub counters_listed : (cs : List ℕ) → length cs ≡ 15 → map (λ i. get_or cs i 0) (zero_to 15) ≡ cs
counters_listed cs e = ext_get_or 0 _ _ (sym e) (λ i h. listing_at (λ j. get_or cs j 0) 15 i h)

pub order_stored : (o : ConsistentPermutation) (ws cs : List ℕ) → 18 ≤ length ws → cs ≡ o.counters → length cs ≡ 15
    → put_mid 3 15 (sets ws 0 (key_of o % 2 ^ 32 ∷ key_of o / 2 ^ 32 ∷ o.n ∷ [])) cs ≡ written (order_words o) ws
unfolding written
order_stored o ws cs h e f =
    let l = key_of o % 2 ^ 32 ∷ key_of o / 2 ^ 32 ∷ o.n ∷ [] in
    let q : sets ws 0 l ≡ written l ws = sets_written l ws (omega arith) in
    let m : map (λ i. get_or o.counters i 0) (zero_to 15) ≡ cs = rw (← e) (counters_listed cs f) in
    rw (q, ← m) (ap (λ z. order_words o ++ z) (drop-drop 15 3 ws))

-- ---- the first numbers, put together

pub digest_is : (key n count r : ℕ) → n ≤ 2 ^ 30 → r ≡ fed_all 0 (take count (P key n)) → r % 2 ^ 63 ≡ coded_number (order_digest key n count)
unfolding order_digest digest
digest_is key n count r h e = rw (le-ltb (2 ^ 30) n h, e)

pub digest_refused : (key n count r : ℕ) → 2 ^ 30 < n → r ≡ 2 ^ 63 + 1 → r ≡ coded_number (order_digest key n count)
unfolding order_digest
digest_refused key n count r h e = rw (lt-ltb (2 ^ 30) n h) e
