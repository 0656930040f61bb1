-- An input of exactly one line: what its code tests, and THE LAW that its first 82 bytes decide.
-- Assumes nothing.
use mathlib.Core.Path.{◌≡◌, refl, sym, ap, ◌∙◌}
use mathlib.Core.List.{List, [], ◌∷◌}
use mathlib.Core.Option.{Option, none, some}
use Prim.Native.Nat.{ℕ, zero, suc, ◌≤◌, ◌<◌, min}
use native.Mathlib.Omega.{arith}
use borrow.Author.Tests.{le-leb, lt-leb}
use lib.Dec.{eqb}
use lib.ListN.{length, take, drop, length-take, length-drop, drop_of_length-le}
use lib.Seq.{take_all, length-take-le}
use Rattle.lists.proofs.Tests.{by_test, by_below}
use Rattle.fields.specs.Lines.{onto, lines_of}
use Rattle.fields.specs.Cuts.{end_of}
use Rattle.fields.specs.Inputs.{short_line, sole, only_line}
use Rattle.fields.proofs.CutLaws.{end_within}

-- ---- the first line of an input

-- up to its line feed,
lines_first : (l : List ℕ) → end_of l < length l → lines_of l ≡ take (end_of l) l ∷ lines_of (drop (suc (end_of l)) l)
lines_first [] p = absurd (omega arith)
lines_first (b ∷ l) p =
    by_test (eqb b 10)
    (λ e. rw e)
    (λ e. let q : suc (end_of l) < suc (length l) = rw e at p in rw (e, lines_first l (omega arith)))

-- or all, where there is none
lines_open : (b : ℕ) (l : List ℕ) → suc (length l) ≤ end_of (b ∷ l) → lines_of (b ∷ l) ≡ (b ∷ l) ∷ []
lines_open b [] p = by_test (eqb b 10) (λ e. let q : 1 ≤ 0 = rw e at p in absurd (omega arith)) (λ e. rw e)
lines_open b (c ∷ l) p =
    by_test (eqb b 10)
    (λ e. let q : suc (suc (length l)) ≤ 0 = rw e at p in absurd (omega arith))
    (λ e. let q : suc (suc (length l)) ≤ suc (end_of (c ∷ l)) = rw e at p in rw (e, lines_open c l (omega arith)))

-- ---- when there is none

-- a second line
sole_onto : (line : List ℕ) (b : ℕ) (ls : List (List ℕ)) → ◌≡◌ {A = Option (List ℕ)} (sole (line ∷ onto b ls)) none
sole_onto line b [] = refl
sole_onto line b (x ∷ ls) = refl

sole_more : (line l : List ℕ) → 0 < length l → ◌≡◌ {A = Option (List ℕ)} (sole (line ∷ lines_of l)) none
sole_more line [] p = absurd (omega arith)
sole_more line (b ∷ l) p = by_test (eqb b 10) (λ e. rw e) (λ e. rw e (sole_onto line b (lines_of l)))

-- a first one too long
sole_long : (line : List ℕ) (ls : List (List ℕ)) → 80 < length line → sole (line ∷ ls) ≡ none
unfolding short_line
sole_long line [] h = rw (lt-leb (length line) 80 h)
sole_long line (x ∷ ls) h = refl

-- no byte at all,
pub only_empty : (l : List ℕ) → length l ≡ 0 → only_line l ≡ none
unfolding only_line
only_empty [] e = refl
only_empty (b ∷ l) e = absurd (omega arith)

-- more than 80 before the line feed,
pub only_long : (l : List ℕ) → 80 < end_of l → only_line l ≡ none
unfolding only_line
only_long [] p = absurd (omega arith)
only_long (b ∷ l) p =
    by_below (end_of (b ∷ l)) (length (b ∷ l))
    (λ h. let n : 80 < length (take (end_of (b ∷ l)) (b ∷ l)) = omega (arith, length-take (end_of (b ∷ l)) (b ∷ l)) in
    ap sole (lines_first (b ∷ l) h) ∙ sole_long (take (end_of (b ∷ l)) (b ∷ l)) (lines_of (drop (suc (end_of (b ∷ l))) (b ∷ l))) n)
    (λ h. ap sole (lines_open b l h) ∙ sole_long (b ∷ l) [] (omega (arith, end_within (b ∷ l))))

-- or a byte after it
pub only_second : (l : List ℕ) → suc (end_of l) < length l → only_line l ≡ none
unfolding only_line
only_second l p =
    let n : 0 < length (drop (suc (end_of l)) l) = omega (arith, length-drop (suc (end_of l)) l) in
    ap sole (lines_first l (omega arith)) ∙ sole_more (take (end_of l) l) (drop (suc (end_of l)) l) n

-- ---- else it is the line

sole_short : (line : List ℕ) → length line ≤ 80 → sole (line ∷ []) ≡ some line
unfolding short_line
sole_short line h = rw (le-leb (length line) 80 h)

pub only_is : (l : List ℕ) → 0 < length l → length l ≤ suc (end_of l) → end_of l ≤ 80 → only_line l ≡ some (take (end_of l) l)
unfolding only_line
only_is [] p q h = absurd (omega arith)
only_is (b ∷ l) p q h =
    let e = end_of (b ∷ l) in
    let n : length (take e (b ∷ l)) ≤ 80 = omega (arith, length-take e (b ∷ l)) in
    by_below e (length (b ∷ l))
    (λ k.
    let rest : drop (suc e) (b ∷ l) ≡ [] = drop_of_length-le (b ∷ l) {i = suc e} q in
    ap sole (lines_first (b ∷ l) k)
    ∙ ap (λ (r : List ℕ). sole (take e (b ∷ l) ∷ lines_of r)) rest
    ∙ sole_short (take e (b ∷ l)) n)
    (λ k.
    let all : take e (b ∷ l) ≡ b ∷ l = take_all e (b ∷ l) k in
    ap sole (lines_open b l k) ∙ ap (λ (r : List ℕ). sole (r ∷ [])) (sym all) ∙ sole_short (take e (b ∷ l)) n)

-- ---- the first 82 bytes

end_take : (n : ℕ) (l : List ℕ) → end_of (take n l) ≡ min n (end_of l)
end_take zero l = omega arith
end_take (suc n) [] = omega arith
end_take (suc n) (b ∷ l) = by_test (eqb b 10) (λ e. rw e (omega arith)) (λ e. rw e (omega (arith, end_take n l)))

-- an input of more bytes than 82 is none, and so are they
pub first_decide : (l : List ℕ) → only_line (take 82 l) ≡ only_line l
first_decide l =
    by_below 82 (length l)
    (λ h.
    let n : length (take 82 l) ≡ 82 = length-take-le 82 l (omega arith) in
    by_below 80 (end_of l)
    (λ p. only_long (take 82 l) (omega (arith, end_take 82 l)) ∙ sym (only_long l p))
    (λ p. only_second (take 82 l) (omega (arith, end_take 82 l)) ∙ sym (only_second l (omega arith))))
    (λ h. ap only_line (take_all 82 l h))
