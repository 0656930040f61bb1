-- The sampled locations and their slots, written place by place from the front.
-- Assumes nothing.
use mathlib.Core.Path.{◌≡◌, refl, sym, ap, ◌∙◌}
use mathlib.Core.List.{List, [], ◌∷◌, ◌++◌, map, map-append}
use mathlib.Core.Option
use mathlib.Core.Option.{Option}
use Prim.Native.Nat.{ℕ, ◌+◌, ◌<◌, ◌≤◌}
use native.Mathlib.Numerals.{add-one}
use native.Mathlib.Omega.{arith}
use lib.ListN.{length, take, get_or, set, length-map}
use lib.Seq.{take-suc, length-take-le}
use Rattle.std.specs.Prelude as rust
use Rattle.std.specs.Iterator.{Yields}
use Rattle.std.proofs.lemmas.Iterator.{YieldsList}
use Rattle.std.proofs.lemmas.Iterator.Consumers.{YieldsList-turn, YieldsList-end}
use Rattle.std.specs.List.{enumerate_from}
use Rattle.std.proofs.lemmas.List.FromFn.{length-enumerate_from, get_or-enumerate_from}
use Rattle.std.proofs.Math.Seq.{take-length}
use Rattle.lists.specs.Lists.{keep, written}
use Rattle.answers.specs.Refusals.{optional}
use Rattle.lists.proofs.Writing.{written_more}
use Rattle.orders.specs.Reservoirs.{counts}
use Rattle.orders.proofs.CountsLaws.{counts_yes, counts_no}
use Rattle.choosers.specs.SlotCalls.{look_up}
use Rattle.rounds.specs.Locations.{state_of}
use Rattle.rounds.specs.InnerRounds.{dealt_to}

-- ---- one location's slot

pub slot_found : (key x total places s : ℕ) (t : List ℕ) (o : rust.Option ℕ) → s ≡ state_of key x → optional o ≡ look_up total t s places
    → rust.unwrap_or o 0 ≡ dealt_to key total t places x
unfolding dealt_to
slot_found key x total places s t o e f = unwrapped o ∙ ap (λ (z : Option ℕ). Option.get_or z 0) (f ∙ ap (λ (z : ℕ). look_up total t z places) e)
  where
    unwrapped : (o : rust.Option ℕ) → rust.unwrap_or o 0 ≡ Option.get_or (optional o) 0
    unwrapped (rust.Some y) = refl
    unwrapped rust.None = refl

-- the scratch is as long as it was lent
pub slot_lent : (key total : ℕ) (t : List ℕ) (x s places lent : ℕ) → s ≡ dealt_to key total t places x → places ≡ lent → s ≡ dealt_to key total t lent x
slot_lent key total t x s places lent e h = e ∙ ap (λ (q : ℕ). dealt_to key total t q x) h

-- ---- the sample as an iterator passes over the list

module _ (n x : ℕ) (xs rest : List ℕ) (is : xs ≡ x ∷ rest) where
  pub sampled_next : x < n → keep (counts n) xs ≡ x ∷ keep (counts n) rest
  sampled_next h = ap (keep (counts n)) is ∙ rw (counts_yes x n h)

  pub sampled_past : n ≤ x → keep (counts n) xs ≡ keep (counts n) rest
  sampled_past h = ap (keep (counts n)) is ∙ rw (counts_no x n h)

-- ---- the loop

-- once the first i of xs are dealt
pub record Dealt (f : ℕ → ℕ) (xs oldLocations oldTerminals : List ℕ) (i : ℕ) (locations terminals : List ℕ) : Type 0 where
  pub located : locations ≡ written (take i xs) oldLocations
  pub served : terminals ≡ written (map f (take i xs)) oldTerminals

module _ (f : ℕ → ℕ) (xs ls ts : List ℕ) where
  pub dealt_start : Dealt f xs ls ts 0 ls ts
  unfolding written
  dealt_start = record { located = refl; served = refl }

  module _ (i : ℕ) (locations terminals : List ℕ) (d : Dealt f xs ls ts i locations terminals) where
    pub dealt_more : i < length xs → length xs ≤ length ls → length xs ≤ length ts → (p x s : ℕ) → p ≡ i → x ≡ get_or xs i x → s ≡ f x
        → Dealt f xs ls ts (i + 1) (set locations p x) (set terminals p s)
    dealt_more h l t p x s e q g =
        let more : take (i + 1) xs ≡ take i xs ++ (x ∷ []) =
        rw add-one (take-suc xs i x h) ∙ ap (λ (y : ℕ). take i xs ++ (y ∷ [])) (sym q) in
        let long : p ≡ length (take i xs) = e ∙ sym (length-take-le i xs (omega (arith, h))) in
        record {
          located =
              ap (λ (z : List ℕ). set z p x) d.located
              ∙ written_more (take i xs) ls p x long (omega (arith, e, h, l))
              ∙ ap (λ (z : List ℕ). written z ls) (sym more);
          served =
              (λ j. set (d.served j) p (g j))
              ∙ written_more (map f (take i xs)) ts p (f x) (long ∙ sym (length-map (take i xs) f)) (omega (arith, e, h, t))
              ∙ ap (λ (z : List ℕ). written z ts) (sym (ap (map f) more ∙ map-append f (take i xs) (x ∷ [])));
        }

    pub dealt_end : i ≡ length xs → (locations ≡ written xs ls) × (terminals ≡ written (map f xs) ts)
    dealt_end e =
        let all : take i xs ≡ xs = ap (λ (k : ℕ). take k xs) e ∙ take-length xs in (
          d.located ∙ ap (λ (z : List ℕ). written z ls) all,
          d.served ∙ ap (λ (z : List ℕ). written (map f z) ts) all,
        )

-- ---- a turn of `enumerate`: the place is the index, and the number is the one there

from_zero : (p i : ℕ) → p ≡ 0 + i → p ≡ i
from_zero p i e = omega (arith, e)

module _ {S : Type 0} {steps : S → rust.Option (ℕ × ℕ) → S → Type 0} {s : S} (xs : List ℕ) (w : YieldsList steps (λ p. p) s (enumerate_from 0 xs))
    (ys : List (ℕ × ℕ)) (t : S) (y : Yields steps s ys t) (u : S) where
  pub numbered_turn : (p x : ℕ) → steps t (rust.Some (p, x)) u → (length ys < length xs) × (p ≡ length ys) × (x ≡ get_or xs (length ys) x)
  numbered_turn p x turns =
      let at : (length ys < length (enumerate_from 0 xs)) × ((p, x) ≡ get_or (enumerate_from 0 xs) (length ys) (p, x)) = YieldsList-turn w ys t y (rust.Some (p, x)) u (p, x) refl turns in
      let lt : length ys < length xs = omega (arith, at.0, length-enumerate_from 0 xs) in
      let q : (p, x) ≡ (0 + length ys, get_or xs (length ys) x) = at.1 ∙ get_or-enumerate_from 0 xs (length ys) (p, x) lt in
      (lt, from_zero p (length ys) (ap (λ (z : ℕ × ℕ). z.0) q), ap (λ (z : ℕ × ℕ). z.1) q)

  pub numbered_end : steps t rust.None u → length ys ≡ length xs
  numbered_end ends = (YieldsList-end w ys t y rust.None u refl ends).1 ∙ length-enumerate_from 0 xs
