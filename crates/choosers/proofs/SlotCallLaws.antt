-- A map that fits its table, in facts; and what each call says and leaves, by its cases.
-- Assumes nothing.
use mathlib.Core.Path.{◌≡◌}
use mathlib.Core.Logic.{◌≢◌}
use mathlib.Core.Bool.{true, false, ◌&&◌}
use mathlib.Core.List.{List}
use Prim.Native.Nat.{ℕ, ◌+◌, ◌≤◌, ◌<◌}
use native.Mathlib.Omega.{arith}
use borrow.Author.Tests.{lt-ltb, le-ltb, le-leb, lt-leb, eq-eqb, ne_eqb, leb-true}
use lib.Dec.{leb}
use lib.ListN.{length, get_or, take, set}
use lib.Seq.{get_or-set_same, get_or-set_other}
use Rattle.answers.specs.Answers.{refusal, result, refused, after}
use Rattle.lists.specs.Lists.{every}
use Rattle.lists.proofs.Tests.{by_same}
use Rattle.lists.proofs.Keeping.{both}
use Rattle.lists.proofs.Ranges.{every_take, every_place}
use Rattle.choosers.specs.declared.node_map.ConsistentNodeMap.{ConsistentNodeMap}
use Rattle.choosers.specs.Slots.{active, vacant}
use Rattle.choosers.specs.SlotCalls.{map_of, slot_limit, at_most_one, fitting, add_call, remove_call, queried, slot_state}

-- ---- the test of refusal 12

pub record Parts (m : ConsistentNodeMap) (t : List ℕ) : Type 0 where
  pub count_le : m.total ≤ length t
  pub count_low : m.total ≤ 65536
  pub bytes : (x : ℕ) → x < m.total → get_or t x 0 ≤ 1

-- a byte of at most 1 is written
pub set_small : (t : List ℕ) (x b y : ℕ) → x < length t → b ≤ 1 → (y ≢ x → get_or t y 0 ≤ 1) → get_or (set t x b) y 0 ≤ 1
set_small t x b y l h k =
    by_same y x
    (λ e. rw (e, get_or-set_same t x b 0 l) h)
    (λ d. rw (get_or-set_other t x y b 0 d) (k d))

module _ (m : ConsistentNodeMap) (t : List ℕ) where
  pub small_parts : fitting m t ≡ true → (m.total ≤ length t) × (m.total ≤ 65536) × (every at_most_one (take m.total t) ≡ true)
  unfolding fitting
  small_parts e =
      let a = both (leb m.total (length t) && leb m.total slot_limit) (every at_most_one (take m.total t)) e in
      let b = both (leb m.total (length t)) (leb m.total slot_limit) a.0 in
      (leb-true m.total (length t) b.0, leb-true m.total slot_limit b.1, a.1)

  pub fits_parts : fitting m t ≡ true → Parts m t
  fits_parts e =
      let p = small_parts e in
      record {
        count_le = p.0;
        count_low = p.1;
        bytes = λ x h. leb-true (get_or t x 0) 1 (every_place at_most_one t m.total x p.2 h (omega (arith, p.0)));
      }

  pub fits_of : Parts m t → fitting m t ≡ true
  unfolding fitting
  fits_of p =
      rw (
        le-leb m.total (length t) p.count_le,
        le-leb m.total slot_limit p.count_low,
        every_take at_most_one t m.total p.count_le (λ x h. le-leb (get_or t x 0) 1 (p.bytes x h)),
      )

  -- no slot fits any table
  pub new_fits : m.total ≡ 0 → fitting m t ≡ true
  new_fits e = fits_of (record { count_le = omega arith; count_low = omega arith; bytes = λ x h. absurd (omega arith) })

  -- the code's tests, one after the other
  pub fits_long : length t < m.total → fitting m t ≡ false
  unfolding fitting
  fits_long h = rw (lt-leb m.total (length t) h)

  pub fits_high : m.total ≤ length t → slot_limit < m.total → fitting m t ≡ false
  unfolding fitting
  fits_high l h = rw (le-leb m.total (length t) l, lt-leb m.total slot_limit h)

  pub fits_small : m.total ≤ length t → m.total ≤ slot_limit → fitting m t ≡ every at_most_one (take m.total t)
  unfolding fitting
  fits_small l h = rw (le-leb m.total (length t) l, le-leb m.total slot_limit h)

  -- ---- add

  pub add_unfit : fitting m t ≡ false → add_call m t ≡ refused 12 (slot_state m t)
  unfolding add_call
  add_unfit e = rw e

  -- x: the lowest deleted slot, else the count
  module _ (ok : fitting m t ≡ true) (x : ℕ) (is : x ≡ vacant t m.total) where
    pub add_vacant : x < m.total → add_call m t ≡ after (result x) (slot_state m (set t x 1))
    unfolding add_call
    add_vacant h = rw (ok, ← is, lt-ltb x m.total h)

    pub add_full : m.total ≤ x → m.total ≡ length t → add_call m t ≡ refused 9 (slot_state m t)
    unfolding add_call
    add_full h e = rw (ok, ← is, le-ltb x m.total h, eq-eqb m.total (length t) e)

    pub add_limit : m.total ≤ x → m.total ≢ length t → m.total ≡ slot_limit → add_call m t ≡ refused 9 (slot_state m t)
    unfolding add_call
    add_limit h d e = rw (ok, ← is, le-ltb x m.total h, ne_eqb m.total (length t) d, eq-eqb m.total slot_limit e)

    pub add_new : m.total ≤ x → m.total ≢ length t → m.total ≢ slot_limit → add_call m t ≡ after (result m.total) (slot_state (map_of (m.total + 1)) (set t m.total 1))
    unfolding add_call
    add_new h d e = rw (ok, ← is, le-ltb x m.total h, ne_eqb m.total (length t) d, ne_eqb m.total slot_limit e)

  -- ---- remove

  module _ (x : ℕ) where
    pub remove_unfit : fitting m t ≡ false → remove_call m t x ≡ refused 12 (slot_state m t)
    unfolding remove_call
    remove_unfit e = rw e

    module _ (ok : fitting m t ≡ true) where
      pub remove_none : active t m.total x ≡ false → remove_call m t x ≡ refused 10 (slot_state m t)
      unfolding remove_call
      remove_none e = rw (ok, e)

      pub remove_last : active t m.total x ≡ true → x + 1 ≡ m.total → remove_call m t x ≡ after (result tt) (slot_state (map_of x) t)
      unfolding remove_call
      remove_last y e = rw (ok, y, eq-eqb (x + 1) m.total e)

      pub remove_other : active t m.total x ≡ true → x + 1 ≢ m.total → remove_call m t x ≡ after (result tt) (slot_state m (set t x 0))
      unfolding remove_call
      remove_other y d = rw (ok, y, ne_eqb (x + 1) m.total d)

  -- ---- the queries

  pub query_unfit : {A : Type 0} (a : A) → fitting m t ≡ false → queried m t a ≡ refusal 12
  unfolding queried
  query_unfit a e = rw e

  pub query_fit : {A : Type 0} (a : A) → fitting m t ≡ true → queried m t a ≡ result a
  unfolding queried
  query_fit a e = rw e
