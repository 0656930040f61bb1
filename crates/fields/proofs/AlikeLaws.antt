-- Whether two fields are the same bytes, as code tells.
-- Assumes nothing.
use mathlib.Core.Path.{◌≡◌, refl, sym, ap, subst}
use mathlib.Core.Bool.{Bool, false, ◌&&◌, not, not-not}
use mathlib.Core.List.{List, [], ◌∷◌}
use Prim.Native.Nat.{ℕ}
use lib.Dec.{eqb}
use lib.ListN.{length}
use Rattle.std.proofs.Common.{rules}
use Rattle.std.specs.Cmp.Lexicographic.{pointwise}
use Rattle.std.proofs.lemmas.Slice.Eq.{compares_Decides, HasBytesAt}
use Rattle.lists.proofs.Tests.{by_test}
use Rattle.fields.specs.Lines.{alike}

-- as `!=` tells,
alike_eq : (w p : List ℕ) → alike w p ≡ pointwise eqb w p
alike_eq [] [] = refl
alike_eq [] (y ∷ p) = refl
alike_eq (x ∷ w) [] = refl
alike_eq (x ∷ w) (y ∷ p) = ap (λ (r : Bool). eqb x y && r) (alike_eq w p)

pub alike_ne : (w s p : List ℕ) (b : Bool) → b ≡ not (pointwise eqb w s) → s ≡ p → alike w p ≡ not b
alike_ne w s p b e same = rw (e, ← same, alike_eq w s) (sym (not-not (pointwise eqb w s)))

-- and as an arm of a `match` does
pub alike_not : (w p : List ℕ) → HasBytesAt p 0 p → (length w ≡ length p → HasBytesAt w 0 p → ⊥) → alike w p ≡ false
alike_not w p self n =
    by_test (alike w p)
    (λ y. let e : w ≡ p = (compares_Decides alike (search rules) w p).0 y in
    absurd (n (ap length e) (subst (λ (l : List ℕ). HasBytesAt l 0 p) (sym e) self)))
    (λ m. m)
