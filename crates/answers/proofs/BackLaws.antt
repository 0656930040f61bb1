-- Back from what a call said to what it answered.
-- Assumes nothing.
use Rattle.std.proofs.Common.{◌≡◌, ℕ, cond, eqb, Result, Ok, Err, Option, Some, None, refl, ap, arith}
use Rattle.std.proofs.Math.Option as maybe
use Rattle.answers.specs.Answers.{Answer, refusal, result}
use Rattle.answers.specs.declared.Refusal.{Refusal}
use Rattle.answers.specs.declared.Refusal.TheVariants.{NAboveLimit, KIsZero, KAboveN, ShortMemory, CannotShrink, AllChosen, NumbersWait, TopLayer, NoSlotLeft, SlotNotActive, NoneActive, Misfit, LocationNotBelowN}
use Rattle.answers.specs.Refusals.{number, answer_of, optional, answer_of_option}

pub answer_ok : {A : Type 0} (r : Result A Refusal) (x : A) → answer_of r ≡ result x → r ≡ Ok x
answer_ok (Ok y) x e = let q : y ≡ x = cc in cc
answer_ok (Err w) x e = let z : ◌≡◌ {A = ℕ} 0 1 = cc in absurd (omega arith)

pub optional_some : {A : Type 0} (o : Option A) (x : A) → optional o ≡ maybe.some x → o ≡ Some x
optional_some (Some y) x e = let q : y ≡ x = cc in cc
optional_some None x e = let z : ◌≡◌ {A = ℕ} 0 1 = cc in absurd (omega arith)

pub answer_some : {A : Type 0} (r : Result (Option A) Refusal) (x : A) → answer_of_option r ≡ result (maybe.some x) → r ≡ Ok (Some x)
answer_some (Ok (Some y)) x e = let q : y ≡ x = cc in cc
answer_some (Ok None) x e = let z : ◌≡◌ {A = ℕ} 0 1 = cc in absurd (omega arith)
answer_some (Err w) x e = let z : ◌≡◌ {A = ℕ} 0 1 = cc in absurd (omega arith)

-- ---- a refusal by its number, and an answer by what it tells

unfoldable pub refusal_of : ℕ → Refusal
refusal_of n =
    cond (eqb n 1) NAboveLimit
    (cond (eqb n 2) KIsZero
    (cond (eqb n 3) KAboveN
    (cond (eqb n 4) ShortMemory
    (cond (eqb n 5) CannotShrink
    (cond (eqb n 6) AllChosen
    (cond (eqb n 7) NumbersWait
    (cond (eqb n 8) TopLayer
    (cond (eqb n 9) NoSlotLeft
    (cond (eqb n 10) SlotNotActive
    (cond (eqb n 11) NoneActive
    (cond (eqb n 12) Misfit LocationNotBelowN)))))))))))

pub refusal_back : (w : Refusal) → refusal_of (number w) ≡ w
unfolding refusal_of
refusal_back NAboveLimit = refl
refusal_back KIsZero = refl
refusal_back KAboveN = refl
refusal_back ShortMemory = refl
refusal_back CannotShrink = refl
refusal_back AllChosen = refl
refusal_back NumbersWait = refl
refusal_back TopLayer = refl
refusal_back NoSlotLeft = refl
refusal_back SlotNotActive = refl
refusal_back NoneActive = refl
refusal_back Misfit = refl
refusal_back LocationNotBelowN = refl

unfoldable pub back : {A : Type 0} → Answer A → Result A Refusal
back (result x) = Ok x
back (refusal n) = Err (refusal_of n)

pub back_answer : {A : Type 0} (r : Result A Refusal) → back (answer_of r) ≡ r
unfolding back
back_answer (Ok x) = refl
back_answer (Err w) = ap Err (refusal_back w)
