-- What a call writes: nothing past the used length that it ends with, and an admit that does not grow nothing at all; and the list
-- keeps its length. Over any record and any list.
-- Assumes nothing.
use mathlib.Core.Path.{◌≡◌, refl, sym, ap, ◌∙◌}
use mathlib.Core.Bool.{Bool, true, false, cond}
use mathlib.Core.List.{List}
use mathlib.Core.Option.{Option, none, some}
use Prim.Native.Nat.{ℕ, ◌+◌, ◌-◌, ◌^◌, ◌<◌}
use native.Mathlib.Omega.{arith}
use borrow.Author.Tests.{ltb-false}
use lib.Dec.{ltb, eqb}
use lib.ListN.{length, take, drop, length-take}
use lib.Seq.{drop_at, length-take-le}
use Rattle.lists.specs.Lists.{standing, written}
use Rattle.lists.proofs.Tests.{by_cond}
use Rattle.lists.proofs.Standing.{standing_le}
use Rattle.lists.proofs.Writing.{length_written}
use Rattle.orders.specs.declared.consistent_reservoir.ConsistentReservoir.{ConsistentReservoir}
use Rattle.orders.specs.Reservoirs.{counts, opening, incoming, grown, wider}
use Rattle.orders.specs.ReservoirCalls.{key_of, j_of, listed, fitting, open_call, exchange_by, exchange, admit_at, admit_call, grow_to, grow_layer_call, ReservoirState}
use Rattle.orders.specs.Admissions.{PastUsed, OpenedPast}
use Rattle.orders.specs.InnerPasses.{low_of}
use Rattle.orders.proofs.AdmitLaws.{here_done, admit_longer}
use Rattle.answers.proofs.MakingLaws.{sizes_by}
use Rattle.answers.specs.Answers.{After, refused}

pub written_rest : (xs l : List ℕ) (u : ℕ) → length xs ≡ u → drop u (written xs l) ≡ drop u l
unfolding written
written_rest xs l u e = drop_at xs (drop (length xs) l) u e ∙ ap (λ (i : ℕ). drop i l) e

-- by cases: either outcome of a test
either : {A : Type 0} (P : A → Type 0) (b : Bool) (x y : A) → P x → P y → P (cond b x y)
either P true x y p q = p
either P false x y p q = q

-- an open
pub open_spares : (k n key : ℕ) (l : List ℕ) → OpenedPast l (open_call k n key l).answer (open_call k n key l).left
unfolding open_call
open_spares k n key l =
    sizes_by (2 ^ 30) 1 k n spares (λ w. refused w l) _ (λ y. refl) (λ y. refl) (λ y. refl)
    (λ s. either spares (ltb (length l) (length (opening key k n))) _ _ refl (written_rest (opening key k n) l (length (opening key k n)) refl))
  where
    spares : After (List ℕ) ConsistentReservoir → Type 0
    spares o = OpenedPast l o.answer o.left

exchange_spares : (r : ConsistentReservoir) (i : ℕ) (xs l : List ℕ) → PastUsed l (exchange r i xs l)
unfolding exchange exchange_by
exchange_spares r i xs l =
    let v : ℕ = incoming r.n xs in
    let u : ℕ = standing (counts (v + 1)) r.k xs (length xs - 1) in
    either (PastUsed l) (ltb (length l) u) _ _ refl
    (written_rest (take u xs) l u (length-take-le u xs (omega (arith, standing_le (counts (v + 1)) r.k xs (length xs - 1)))))

at_spares : (r : ConsistentReservoir) (l : List ℕ) (o : Option ℕ) → PastUsed l (admit_at r l o)
at_spares r l none = refl
at_spares r l (some i) = exchange_spares r i (grown (key_of r) i r.k (listed r l)) l

pub admit_spares : (r : ConsistentReservoir) (l : List ℕ) → PastUsed l (admit_call r l)
unfolding admit_call
admit_spares r l =
    either (PastUsed l) (fitting r l) _ _
    (either (PastUsed l) (ltb r.k r.used) _ _ (exchange_spares r (j_of r) (listed r l) l) (at_spares r l (wider (key_of r) r.k (j_of r))))
    refl

pub grow_spares : (r : ConsistentReservoir) (l : List ℕ) → PastUsed l (grow_layer_call r l)
unfolding grow_layer_call grow_to
grow_spares r l =
    let xs : List ℕ = grown (key_of r) (j_of r + 1) r.k (listed r l) in
    either (PastUsed l) (fitting r l) _ _
    (either (PastUsed l) (ltb r.k r.used) _ _ refl
    (either (PastUsed l) (eqb (j_of r) 14) _ _ refl
    (either (PastUsed l) (ltb (length l) (length xs)) _ _ refl (written_rest xs l (length xs) refl))))
    refl

-- an admit that does not grow leaves every place
pub admit_quiet : (r : ConsistentReservoir) (l : List ℕ) → fitting r l ≡ true → r.k < r.used → (admit_call r l).left.list ≡ l
admit_quiet r l e h =
    ap (λ (a : After ReservoirState (Option (ℕ × ℕ))). a.left.list)
    (sym (here_done r l e h (low_of r.n (listed r l)) refl _ refl ∙ admit_longer r l e h))

-- ---- the list keeps its length: what is written over it is no longer than it, or the call is refused 4

pub open_length : (k n key : ℕ) (l : List ℕ) → length (open_call k n key l).left ≡ length l
unfolding open_call
open_length k n key l =
    sizes_by (2 ^ 30) 1 k n long (λ w. refused w l) _ (λ y. refl) (λ y. refl) (λ y. refl)
    (λ s. by_cond long (ltb (length l) (length (opening key k n))) _ _
    (λ y. refl)
    (λ m. length_written (opening key k n) l (ltb-false (length l) (length (opening key k n)) m)))
  where
    long : After (List ℕ) ConsistentReservoir → Type 0
    long o = length o.left ≡ length l

abbrev pub Long : {A : Type 0} → List ℕ → After ReservoirState A → Type 0
Long l a = length a.left.list ≡ length l

exchange_length : (r : ConsistentReservoir) (i : ℕ) (xs l : List ℕ) → Long l (exchange r i xs l)
unfolding exchange exchange_by
exchange_length r i xs l =
    let u : ℕ = standing (counts (incoming r.n xs + 1)) r.k xs (length xs - 1) in
    by_cond (Long l) (ltb (length l) u) _ _
    (λ y. refl)
    (λ m. length_written (take u xs) l (omega (arith, ltb-false (length l) u m, length-take u xs)))

at_length : (r : ConsistentReservoir) (l : List ℕ) (o : Option ℕ) → Long l (admit_at r l o)
at_length r l none = refl
at_length r l (some i) = exchange_length r i (grown (key_of r) i r.k (listed r l)) l

pub admit_length : (r : ConsistentReservoir) (l : List ℕ) → Long l (admit_call r l)
unfolding admit_call
admit_length r l =
    either (Long l) (fitting r l) _ _
    (either (Long l) (ltb r.k r.used) _ _ (exchange_length r (j_of r) (listed r l) l) (at_length r l (wider (key_of r) r.k (j_of r))))
    refl
