-- One number put into a list at a place.
-- Assumes nothing.
use mathlib.Core.Path.{◌≡◌, refl, sym, ap, ◌∙◌}
use mathlib.Core.Bool.{Bool}
use mathlib.Core.List.{List, [], ◌∷◌, ◌++◌, append_assoc}
use Prim.Native.Nat.{ℕ, zero, suc, ◌+◌, ◌≤◌, ◌<◌}
use native.Mathlib.Omega.{arith}
use lib.ListN.{length, get_or, take, drop, drop_of_length-le, take-append-drop}
use lib.Seq.{take-append-le, drop-append-le, take_all}
use Rattle.lists.specs.Lists.{keep, below, occurrences, more, same, lacked}
use Rattle.lists.proofs.Tests.{below_no, same_yes, by_below, by_test}
use Rattle.lists.proofs.Members.{has_yes, has_no, occurrences_head, occurrences_tail, occurrences_append, keep_append}
use Rattle.lists.proofs.Counting.{Order, count_step, order_none}

-- x put in before the p-th number of l
unfoldable pub insert_at : List ℕ → ℕ → ℕ → List ℕ
insert_at l p x = take p l ++ x ∷ drop p l

pub insert_at_snoc : (l : List ℕ) (y p x : ℕ) → p ≤ length l → insert_at (l ++ (y ∷ [])) p x ≡ insert_at l p x ++ (y ∷ [])
unfolding insert_at
insert_at_snoc l y p x h = rw (take-append-le p l (y ∷ []) h, drop-append-le p l (y ∷ []) h, append_assoc (take p l) (x ∷ drop p l) (y ∷ []))

pub insert_at_end : (l : List ℕ) (p x : ℕ) → length l ≡ p → insert_at l p x ≡ l ++ (x ∷ [])
unfolding insert_at
insert_at_end l p x e = rw (take_all p l (omega arith), drop_of_length-le l {i = p} (omega arith))

pub length_insert_at : (l : List ℕ) (p x : ℕ) → p ≤ length l → length (insert_at l p x) ≡ suc (length l)
unfolding insert_at
length_insert_at l zero x h = refl
length_insert_at [] (suc p) x h = absurd (omega arith)
length_insert_at (y ∷ l) (suc p) x h = ap suc (length_insert_at l p x (omega arith))

pub insert_at_at : (l : List ℕ) (p x : ℕ) → p ≤ length l → get_or (insert_at l p x) p 0 ≡ x
unfolding insert_at
insert_at_at l zero x h = refl
insert_at_at [] (suc p) x h = absurd (omega arith)
insert_at_at (y ∷ l) (suc p) x h = insert_at_at l p x (omega arith)

pub occurrences_insert_at : (v : ℕ) (l : List ℕ) (p x : ℕ) → occurrences v (insert_at l p x) ≡ more (same v x) (occurrences v l)
unfolding insert_at
occurrences_insert_at v l p x =
    let a : occurrences v (take p l) + occurrences v (drop p l) ≡ occurrences v l = sym (occurrences_append v (take p l) (drop p l)) ∙ ap (occurrences v) (take-append-drop p l) in
    occurrences_append v (take p l) (x ∷ drop p l)
    ∙ by_test (same v x) (λ y. rw y (omega arith)) (λ n. rw n a)

pub keep_insert_at : (m : ℕ) (l : List ℕ) (p x : ℕ) → m ≤ x → keep (below m) (insert_at l p x) ≡ keep (below m) l
unfolding insert_at
keep_insert_at m l p x h =
    keep_append (below m) (take p l) (x ∷ drop p l)
    ∙ rw (below_no x m h) (sym (keep_append (below m) (take p l) (drop p l)) ∙ ap (keep (below m)) (take-append-drop p l))

-- ---- the number put in is the one that a list with the others lacks

lacked_split : (before after known : List ℕ) (x : ℕ) → ((v : ℕ) → 0 < occurrences v before → 0 < occurrences v known) → occurrences x known ≡ 0 → lacked (before ++ x ∷ after) known ≡ x
unfolding lacked
lacked_split [] after known x h e = rw (has_no x known e)
lacked_split (y ∷ before) after known x h e =
    rw (has_yes y known (h y (occurrences_head y before)))
    (lacked_split before after known x (λ v q. h v (occurrences_tail v y before q)) e)

pub lacked_insert_at : (l known : List ℕ) (p x : ℕ) → ((v : ℕ) → 0 < occurrences v l → 0 < occurrences v known) → occurrences x known ≡ 0 → lacked (insert_at l p x) known ≡ x
unfolding insert_at
lacked_insert_at l known p x h e =
    lacked_split (take p l) (drop p l) known x
    (λ v q. h v (omega (arith, occurrences_append v (take p l) (drop p l), ap (occurrences v) (take-append-drop p l)))) e

-- ---- an order of 0..n with n put in is one of 0..n+1

pub order_insert : (n : ℕ) (l : List ℕ) (p : ℕ) → Order n l → p ≤ length l → Order (suc n) (insert_at l p n)
order_insert n l p o h = record {
  size = length_insert_at l p n h ∙ ap suc o.size;
  counts = λ m q.
      by_below m (suc n)
      (λ r. ap length (keep_insert_at m l p n (omega arith)) ∙ o.counts m (omega arith))
      (λ r. let e : m ≡ suc n = omega arith in rw e (omega (
        arith,
        count_step n (insert_at l p n),
        ap length (keep_insert_at n l p n (omega arith)),
        o.counts n (omega arith),
        occurrences_insert_at n l p n,
        ap (λ (b : Bool). more b (occurrences n l)) (same_yes n n refl),
        order_none o n (omega arith),
      )));
}
