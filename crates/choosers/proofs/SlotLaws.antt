-- The first number of a choice order that passes a test, whatever count it is looked up in; and so a location's slot, from the active
-- slots alone, and as slots come and go.
-- Assumes nothing.
use mathlib.Core.Path.{◌≡◌, refl, sym, ap, ◌∙◌}
use mathlib.Core.Logic.{◌⊎◌, inl, inr, ⊎_elim, ◌≢◌}
use mathlib.Core.Bool.{Bool, true, false}
use mathlib.Core.List.{List, [], ◌∷◌}
use mathlib.Core.Option.{none, some}
use Prim.Native.Nat.{ℕ, ◌≤◌, ◌<◌, max}
use native.Mathlib.Omega.{arith}
use Rattle.lists.specs.Lists.{keep, below, has, zero_to, largest, find, without}
use Rattle.lists.proofs.Tests.{below_yes, by_test}
use Rattle.lists.proofs.Members.{has_yes, has_no, has→occurrences}
use Rattle.lists.proofs.Extremes.{by_max, extreme_of}
use Rattle.lists.proofs.Having.{has_tail, has_again, has_out, has_others}
use Rattle.lists.proofs.Finding.{find_passes, find_some, find_none, find_keep, find_same, find_removed, find_added}
use Rattle.choosers.specs.Choosers.{Q}
use Rattle.choosers.specs.Slots.{active, actives, holder, one_above, slot_among}
use Rattle.lists.proofs.Ranges.{Within, has_kept}
use Rattle.choosers.proofs.OrderLaws.{Q_keep, Q_once}
use Rattle.choosers.proofs.ActiveLaws.{active_within}

-- ---- any test

module _ (s : ℕ) where
  -- The first of Q(m) that passes is the first of Q(c) for any larger count c, as long as what passes is below m.
  pub first_any : (p : ℕ → Bool) (m c : ℕ) → Within p m → m ≤ c → find p (Q s c) ≡ find p (Q s m)
  first_any p m c w h = sym (find_keep p (below m) (λ x y. below_yes x m (w x y)) (Q s c)) ∙ ap (find p) (Q_keep s m c h)

  -- Where a number below the count passes, one is found.
  pub first_some : (p : ℕ → Bool) (c x : ℕ) → x < c → p x ≡ true → find p (Q s c) ≢ none
  first_some p c x h y = find_some p (Q s c) x (omega (arith, Q_once s c x h)) y

  -- Two tests that agree but for x, each with a count that its numbers are below: they find the same,
  module _ (p q : ℕ → Bool) (c d x : ℕ) (wp : Within p c) (wq : Within q d) (rest : (y : ℕ) → y ≢ x → p y ≡ q y) where
    p_high : find p (Q s (max c d)) ≡ find p (Q s c)
    p_high = first_any p c (max c d) wp (omega arith)

    q_high : find q (Q s (max c d)) ≡ find q (Q s d)
    q_high = first_any q d (max c d) wq (omega arith)

    -- where x goes, unless it was found,
    pub first_out : q x ≡ false → find p (Q s c) ≢ some x → find q (Q s d) ≡ find p (Q s c)
    first_out n a = sym q_high ∙ find_removed p q x (Q s (max c d)) rest n (λ e. a (sym p_high ∙ e)) ∙ p_high

    -- and where it comes, unless it is found.
    pub first_put : p x ≡ false → (find q (Q s d) ≡ find p (Q s c)) ⊎ (find q (Q s d) ≡ some x)
    first_put n =
        ⊎_elim
        (λ (e : find q (Q s (max c d)) ≡ find p (Q s (max c d))). inl (sym q_high ∙ e ∙ p_high))
        (λ (e : find q (Q s (max c d)) ≡ some x). inr (sym q_high ∙ e))
        (find_added p q x (Q s (max c d)) rest n)

-- ---- a set of slots

-- every one of the slots is below c
abbrev pub Bounded : List ℕ → ℕ → Type 0
Bounded A c = Within (λ x. has x A) c

-- 1 + the highest of the slots is above them all, and no higher than any number that is
above_bounded : (A : List ℕ) → Bounded A (one_above (largest A))
above_bounded [] x h = absurd (omega (arith, has→occurrences x [] h))
above_bounded (y ∷ A) x h = omega (arith, (extreme_of by_max y A).best x (has→occurrences x (y ∷ A) h))

above_least : (A : List ℕ) (c : ℕ) → Bounded A c → one_above (largest A) ≤ c
above_least [] c b = omega arith
above_least (y ∷ A) c b = b _ (has_yes _ (y ∷ A) (extreme_of by_max y A).there)

-- The slot is the first of A in Q(c) for any count c above the highest of A.
pub slot_any : (s c : ℕ) (A : List ℕ) → Bounded A c → find (λ x. has x A) (Q s c) ≡ slot_among s A
unfolding slot_among
slot_any s c A b =
    let m : ℕ = one_above (largest A) in
    first_any s (λ x. has x A) m c (above_bounded A) (above_least A c b)

-- The first of Q(c) that passes a test is the slot of those that pass.
pub first_among : (s : ℕ) (p : ℕ → Bool) (c : ℕ) → Within p c → find p (Q s c) ≡ slot_among s (keep p (zero_to c))
first_among s p c w =
    let A : List ℕ = keep p (zero_to c) in
    find_same p (λ x. has x A) (Q s c) (λ x h. sym (has_kept p c x w))
    ∙ slot_any s c A (λ x h. w x (sym (has_kept p c x w) ∙ h))

-- ---- get's answer

-- The active slots as a list have just the active slots.
pub has_actives : (t : List ℕ) (c x : ℕ) → has x (actives t c) ≡ active t c x
unfolding actives
has_actives t c x = has_kept (active t c) c x (active_within t c)

pub actives_bounded : (t : List ℕ) (c : ℕ) → Bounded (actives t c) c
actives_bounded t c x h = active_within t c x (sym (has_actives t c x) ∙ h)

-- Get's answer is the slot by definition, whatever the bytes from the count on are.
pub holder_slot : (s : ℕ) (t : List ℕ) (c : ℕ) → holder s t c ≡ slot_among s (actives t c)
unfolding holder actives
holder_slot s t c = first_among s (active t c) c (active_within t c)

-- ---- which slot it is

module _ (s : ℕ) where
  -- Lists of the same slots have the same slot.
  pub slot_same : (A B : List ℕ) → ((x : ℕ) → has x A ≡ has x B) → slot_among s A ≡ slot_among s B
  slot_same A B e =
      let m : ℕ = one_above (largest A) in
      sym (slot_any s m A (above_bounded A))
      ∙ find_same (λ x. has x A) (λ x. has x B) (Q s m) (λ x h. e x)
      ∙ slot_any s m B (λ x h. above_bounded A x (e x ∙ h))

  -- It is one of them.
  pub slot_in_lem : (A : List ℕ) (x : ℕ) → slot_among s A ≡ some x → has x A ≡ true
  unfolding slot_among
  slot_in_lem A x e = find_passes (λ x. has x A) (Q s (one_above (largest A))) x e

  -- Where there is one, one is found; where there is none, none.
  pub slot_some : (A : List ℕ) (x : ℕ) → has x A ≡ true → slot_among s A ≢ none
  unfolding slot_among
  slot_some A x h =
      first_some s (λ x. has x A) (one_above (largest A)) x (above_bounded A x h) h

  pub slot_none : slot_among s [] ≡ none
  unfolding slot_among
  slot_none = find_none (λ x. has x []) (Q s 0) (λ x h. has_no x [] refl)

  -- ---- as slots come and go

  -- Taking a slot out changes the answer only where it was that slot.
  pub slot_out : (A : List ℕ) (x : ℕ) → slot_among s A ≢ some x → slot_among s (without x A) ≡ slot_among s A
  unfolding slot_among
  slot_out A x d =
      first_out s (λ y. has y A) (λ y. has y (without x A)) _ _ x (above_bounded A) (above_bounded (without x A))
      (λ y n. sym (has_others y x A n)) (has_out x A) d

  -- Putting one in changes it only to that slot.
  pub slot_put : (A : List ℕ) (x : ℕ) → (slot_among s (x ∷ A) ≡ slot_among s A) ⊎ (slot_among s (x ∷ A) ≡ some x)
  unfolding slot_among
  slot_put A x =
      by_test (has x A)
      (λ y. inl (slot_same (x ∷ A) A (has_again x A y)))
      (λ n. first_put s (λ y. has y A) (λ y. has y (x ∷ A)) _ _ x (above_bounded A) (above_bounded (x ∷ A)) (λ y d. sym (has_tail y x A d)) n)
