-- How a refusal reads where it is printed.
-- Assumes nothing.
use Rattle.std.specs.Prelude.{List, ℕ, codes}
use Rattle.answers.specs.declared.Refusal.{Refusal}
use Rattle.answers.specs.declared.Refusal.TheVariants.{NAboveLimit, KIsZero, KAboveN, ShortMemory, CannotShrink, AllChosen, NumbersWait, TopLayer, NoSlotLeft, SlotNotActive, NoneActive, Misfit, LocationNotBelowN}

abbrev pub refusal_text : Refusal → List ℕ
refusal_text NAboveLimit = codes "n is above the limit"
refusal_text KIsZero = codes "k is 0"
refusal_text KAboveN = codes "k is above n"
refusal_text ShortMemory = codes "lent memory is too short"
refusal_text CannotShrink = codes "no smaller n has k samples"
refusal_text AllChosen = codes "all n are chosen"
refusal_text NumbersWait = codes "listed numbers still wait for an admit"
refusal_text TopLayer = codes "there is no higher layer"
refusal_text NoSlotLeft = codes "no slot is left"
refusal_text SlotNotActive = codes "the slot is not active"
refusal_text NoneActive = codes "no slot is active"
refusal_text Misfit = codes "the record does not fit its memory, or the input has no known form"
refusal_text LocationNotBelowN = codes "the location is not below n"
