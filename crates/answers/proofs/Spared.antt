-- What a call's law on its refusals gives: of a refusal that it said, and of a call that says the same in other words.
-- Assumes nothing.
use mathlib.Core.Path.{◌≡◌, refl, sym, ap, subst, ◌∙◌}
use mathlib.Core.Bool.{Bool, true, true≢false}
use mathlib.Core.List.{List, [], ◌∷◌}
use Prim.Native.Nat.{ℕ}
use Rattle.answers.specs.Answers.{Answer, refusal, result, map_answer}
use Rattle.lists.specs.Lists.{every, has}
use Rattle.answers.specs.Refusing.{Among, Spares}
use Rattle.lists.proofs.Tests.{by_same}
use Rattle.answers.proofs.AnswerLaws.{not_said, refusal_same}
use Rattle.lists.proofs.Keeping.{every_all, all_every}
use Rattle.lists.proofs.Members.{has_no}
use Rattle.lists.proofs.Having.{has_tail}

-- what was refused has one of the numbers,
pub among_number : {A : Type 0} (ws : List ℕ) (t : Answer A) (w : ℕ) → Among ws t → t ≡ refusal w → has w ws ≡ true
among_number ws (refusal v) w a e = subst (λ (x : ℕ). has x ws ≡ true) (refusal_same v w e) a
among_number ws (result x) w a e = not_said w x (sym e)

-- also where it might have written,
pub spared_among : {A M : Type 0} (ws : List ℕ) (t : Answer A) (before now : M) → Spares ws t before now → Among ws t
spared_among ws (refusal w) before now s = s.0
spared_among ws (result x) before now s = tt

-- and there all stands as before.
pub spared_same : {A M : Type 0} (ws : List ℕ) (t : Answer A) (before now : M) (w : ℕ) → Spares ws t before now → t ≡ refusal w → now ≡ before
spared_same ws (refusal v) before now w s e = s.1
spared_same ws (result x) before now w s e = not_said w x (sym e)

-- An answer in other words makes no other refusal.
pub spared_mapped : {A B M : Type 0} (f : A → B) (ws : List ℕ) (t : Answer A) (before now : M) → Spares ws t before now → Spares ws (map_answer f t) before now
spared_mapped f ws (refusal w) before now s = s
spared_mapped f ws (result x) before now s = tt

-- What is made of all that was lent is as it was too.
pub spared_under : {A M N : Type 0} (f : M → N) (ws : List ℕ) (t : Answer A) (before now : M) → Spares ws t before now → Spares ws t (f before) (f now)
spared_under f ws (refusal w) before now s = (s.0, ap f s.1)
spared_under f ws (result x) before now s = tt

-- What every number of a list passes, one of them passes.
pub every_has : (p : ℕ → Bool) (ws : List ℕ) → every p ws ≡ true → (w : ℕ) → has w ws ≡ true → p w ≡ true
every_has p [] e w h = absurd (true≢false (sym h ∙ has_no w [] refl))
every_has p (v ∷ ws) e w h =
    let a = all_every p (v ∷ ws) e in
    by_same w v (λ s. ap p s ∙ a.0) (λ d. every_has p ws (every_all p ws a.1) w (sym (has_tail w v ws d) ∙ h))

-- One may speak of more numbers than a call has.
pub has_within : (vs ws : List ℕ) → every (λ v. has v ws) vs ≡ true → (w : ℕ) → has w vs ≡ true → has w ws ≡ true
has_within vs ws = every_has (λ v. has v ws) vs

pub spared_within : {A M : Type 0} (vs ws : List ℕ) (t : Answer A) (before now : M) → every (λ v. has v ws) vs ≡ true
    → Spares vs t before now → Spares ws t before now
spared_within vs ws (refusal w) before now e s = (has_within vs ws e w s.0, s.1)
spared_within vs ws (result x) before now e s = tt
