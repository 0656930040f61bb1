-- The number that is due: what the search finds is the smallest v from n up among the first k of P(v+1); and how the first k
-- of P(n) change when it comes in.
-- Assumes nothing.
use mathlib.Core.Path.{◌≡◌, refl, sym, ap, ◌∙◌, subst}
use mathlib.Core.Bool.{true, false, true≢false}
use mathlib.Core.List.{List, [], ◌∷◌, ◌++◌, append-nil}
use mathlib.Core.Option.{none, some}
use Prim.Native.Nat.{ℕ, suc, ◌+◌, ◌-◌, ◌^◌, ◌≤◌, ◌<◌}
use native.Mathlib.Nat.{le_refl}
use native.Mathlib.Numerals.{add-one}
use native.Mathlib.Omega.{arith}
use lib.ListN.{length, take, get_or}
use lib.Seq.{take-suc, length-take-le}
use Rattle.lists.specs.Lists.{keep, below, occurrences, without, other, Exchanges}
use Rattle.lists.proofs.Tests.{below_yes, below_no, same_yes, by_below, by_same}
use Rattle.lists.proofs.Counting.{order_none, order_occurrences}
use Rattle.lists.proofs.Members.{has_yes, has_no, has→occurrences, occurrences_append, occurrences_keep_yes, keep_agree, keep_append}
use Rattle.lists.proofs.Prefixes.{occurrences_take, occurrences_first, keep_take}
use Rattle.lists.proofs.Searching.{first_some, first_none, by_first}
use Rattle.lists.proofs.Without.{other_yes, other_no, without_length, without_none}
use Rattle.orders.specs.Orders.{P}
use Rattle.orders.specs.Reservoirs.{among, due, kth}
use Rattle.orders.specs.Admissions.{Due, DueIs}
use Rattle.orders.proofs.OrderLaws.{P_part, P_order, P_length}
use Rattle.orders.proofs.HeldLaws.{Enters, Next}

-- ---- the search

enters_no : (key k u : ℕ) → (Enters key k u → ⊥) → among key k u ≡ false
enters_no key k u h =
    rw (add-one u) (has_no u (take k (P key (suc u))) (by_below 0 (occurrences u (take k (P key (suc u)))) (λ a. absurd (h a)) (λ a. omega arith)))

enters_yes : (key k u : ℕ) → Enters key k u → among key k u ≡ true
enters_yes key k u h = rw (add-one u) (has_yes u (take k (P key (suc u))) h)

pub due_some : (key k n v : ℕ) → Next key k n v → v < 2 ^ 30 → due key k n ≡ some v
unfolding due
due_some key k n v x h =
    first_some (among key k) v n (2 ^ 30 - n) x.large (omega (arith, x.large)) (enters_yes key k v x.enters)
    (λ u a b. enters_no key k u (x.first u a b))

pub due_none : (key k n : ℕ) → ((u : ℕ) → n ≤ u → u < 2 ^ 30 → Enters key k u → ⊥) → due key k n ≡ none
unfolding due
due_none key k n f = first_none (among key k) n (2 ^ 30 - n) (λ u a b. enters_no key k u (f u a (omega arith)))

-- what the search finds is due, and where it finds none, none is
pub due_holds : (key k n : ℕ) → DueIs key k n (due key k n)
unfolding due
due_holds key k n =
    by_first (among key k) n (2 ^ 30 - n)
    (λ i f a b y z. subst (DueIs key k n) (sym f) (record { from_n = a; limit = omega arith; among_first = y; smallest = z }))
    (λ f z. subst (DueIs key k n) (sym f) (λ u a b. z u a (omega arith)))

pub some_is : (i v : ℕ) → some i ≡ some v → i ≡ v
some_is i v e = cc

pub none_not : (v : ℕ) → none ≡ some v → ⊥
none_not v e = let z : true ≡ false = cc in true≢false z

-- by how often it stands there
pub due_next : (key k n v : ℕ) → due key k n ≡ some v → (v < 2 ^ 30) × Next key k n v
due_next key k n v e =
    let d : Due key k n v = subst (DueIs key k n) e (due_holds key k n) in (
      d.limit,
      record {
        large = d.from_n;
        enters = has→occurrences v (take k (P key (suc v))) (rw (add-one v) at d.among_first);
        first = λ u a b h. true≢false (sym (enters_yes key k u h) ∙ d.smallest u a b);
      },
    )

-- ---- the first k of P(n) and of a later order

-- out stays out: a number below n that is not among the first k of P(n) is not among the first k of a later order
pub out_stays_out : (key k n n' x : ℕ) → x < n → n ≤ n' → n' ≤ 2 ^ 30 → 0 < occurrences x (take k (P key n')) → 0 < occurrences x (take k (P key n))
out_stays_out key k n n' x a b l c =
    let h : occurrences x (take k (P key n')) ≤ occurrences x (take k (keep (below n) (P key n'))) = occurrences_first (below n) x (below_yes x n a) k k (le_refl k) (P key n') in
    let e : occurrences x (take k (keep (below n) (P key n'))) ≡ occurrences x (take k (P key n)) = ap (λ (r : List ℕ). occurrences x (take k r)) (P_part key n n' b l) in
    omega arith

module _ (key k n v : ℕ) (k0 : 0 < k) (kn : k ≤ n) (x : Next key k n v) (v-small : v < 2 ^ 30) where
  abbrev o : ℕ
  o = get_or (P key n) (k - 1) 0

  n_small : n ≤ 2 ^ 30
  n_small = omega (arith, x.large)

  once : (u m : ℕ) → m ≤ 2 ^ 30 → occurrences u (take k (P key m)) ≤ 1
  once u m b = omega (arith, occurrences_take u k (P key m), order_occurrences (P_order key m b) u)

  sample_none : (u m : ℕ) → m ≤ 2 ^ 30 → m ≤ u → occurrences u (take k (P key m)) ≡ 0
  sample_none u m b h = omega (arith, occurrences_take u k (P key m), order_none (P_order key m b) u h)

  sample_snoc : take k (P key n) ≡ take (k - 1) (P key n) ++ (o ∷ [])
  sample_snoc =
      let s : suc (k - 1) ≡ k = omega arith in
      let e : take (suc (k - 1)) (P key n) ≡ take (k - 1) (P key n) ++ (o ∷ []) = take-suc (P key n) (k - 1) 0 (omega (arith, P_length key n n_small)) in
      rw s at e

  -- of the sample after it, those below n are all but v
  after_below : without v (take k (P key (suc v))) ≡ keep (below n) (take k (P key (suc v)))
  after_below =
      keep_agree (other v) (below n) (take k (P key (suc v)))
      (λ u a. by_below u n
      (λ h. other_yes v u (omega (arith, x.large)) ∙ sym (below_yes u n h))
      (λ h. by_same u v
      (λ e. other_no v u e ∙ sym (below_no u n h))
      (λ d. absurd (by_below u (suc v)
      (λ l. x.first u h (omega arith) (out_stays_out key k (suc u) (suc v) u (omega arith) l v-small a))
      (λ l. omega (arith, sample_none u (suc v) v-small l))))))

  -- they are the first k - 1 of P(n)
  after_others : without v (take k (P key (suc v))) ≡ take (k - 1) (P key n)
  after_others =
      let len : length (take k (P key (suc v))) ≡ k = length-take-le k (P key (suc v)) (omega (arith, P_length key (suc v) v-small, x.large)) in
      let e : length (keep (below n) (take k (P key (suc v)))) ≡ k - 1 =
      omega (arith, ap length after_below, without_length v (take k (P key (suc v))), once v (suc v) v-small, x.enters) in
      after_below
      ∙ keep_take (below n) k (P key (suc v))
      ∙ ap (λ (r : List ℕ). take (length (keep (below n) (take k (P key (suc v))))) r) (P_part key n (suc v) (omega (arith, x.large)) v-small)
      ∙ ap (λ (i : ℕ). take i (P key n)) e

  o_one : occurrences o (take k (P key n)) ≡ occurrences o (take (k - 1) (P key n)) + 1
  o_one = ap (occurrences o) sample_snoc ∙ occurrences_append o (take (k - 1) (P key n)) (o ∷ []) ∙ (rw (same_yes o o refl) refl)

  before_others : without o (take k (P key n)) ≡ take (k - 1) (P key n)
  before_others =
      ap (without o) sample_snoc
      ∙ keep_append (other o) (take (k - 1) (P key n)) (o ∷ [])
      ∙ rw (other_no o o refl) (append-nil (without o (take (k - 1) (P key n))))
      ∙ without_none o (take (k - 1) (P key n)) (omega (arith, o_one, once o n n_small))

  -- the first k of P(n) against the first k of P(v+1), where v is due: v comes in, the k-th of P(n) goes out
  pub next_exchange : Exchanges (take k (P key n)) (take k (P key (suc v))) v (kth key k n)
  unfolding kth
  next_exchange =
      let w : occurrences o (take k (P key n)) ≡ 1 = omega (arith, o_one, once o n n_small) in
      let on : o < n = by_below o n (λ h. h) (λ h. absurd (omega (arith, sample_none o n n_small h))) in
      let a : occurrences o (without v (take k (P key (suc v)))) ≡ occurrences o (take (k - 1) (P key n)) = ap (occurrences o) after_others in
      record {
        v_new = sample_none v n n_small x.large;
        v_in = omega (arith, once v (suc v) v-small, x.enters);
        o_was = w;
        o_out = omega (arith, o_one, occurrences_keep_yes (other v) o (take k (P key (suc v))) (other_yes v o (omega (arith, x.large))));
        others = after_others ∙ sym before_others;
      }
