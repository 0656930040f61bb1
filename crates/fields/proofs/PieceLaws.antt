-- THE THEOREM of the cutter: whatever pieces an input comes in and however the cuts part them, the lines that the cuts give are those
-- of the whole input, each cut down to its first 81 bytes.
-- Assumes nothing.
use mathlib.Core.Path.{◌≡◌, refl, sym, ap, ◌∙◌}
use mathlib.Core.List.{List, [], ◌∷◌, ◌++◌, append_assoc, append-nil}
use Prim.Native.Nat.{ℕ, suc, ◌≤◌, ◌<◌}
use native.Mathlib.Omega.{arith}
use lib.Dec.{eqb}
use lib.ListN.{length, take, length-take}
use lib.Seq.{take_all}
use Rattle.lists.proofs.Tests.{by_test}
use Rattle.fields.specs.Lines.{onto, lines_of}
use Rattle.fields.specs.Cuts.{end_of, taken_by, line_of, held_by, whole, firsts, unended, cut_lines, Cuts, ends, cuts}
use Rattle.fields.specs.declared.cuts.Cutting.{Cutting}
use Rattle.fields.specs.declared.cuts.Cutting.TheVariants.{Open, Whole, Joined}
use Rattle.fields.proofs.CutLaws.{take_cut, Ended, Gives, cut_gives}

-- ---- up to the first line feed

-- the line that a line feed ends
pub lines_ended : (h l more : List ℕ) → end_of l < length l → cut_lines (take 81 h) (take (suc (end_of l)) l ++ more) ≡ take 81 (h ++ take (end_of l) l) ∷ cut_lines [] more
lines_ended h [] more p = absurd (omega arith)
lines_ended h (b ∷ l) more p =
    by_test (eqb b 10)
    (λ e. rw (e, append-nil h))
    (λ e.
    let q : suc (end_of l) < suc (length l) = rw e at p in
    let a : (h ++ (b ∷ [])) ++ take (end_of l) l ≡ h ++ b ∷ take (end_of l) l = append_assoc h (b ∷ []) (take (end_of l) l) in
    rw (e, ← a) (ap (λ (x : List ℕ). cut_lines x (take (suc (end_of l)) l ++ more)) (take_cut 81 h (b ∷ [])) ∙ lines_ended (h ++ (b ∷ [])) l more (omega arith)))

-- bytes with no line feed are held
pub lines_held : (h l more : List ℕ) → length l ≤ end_of l → cut_lines (take 81 h) (l ++ more) ≡ cut_lines (take 81 (h ++ l)) more
lines_held h [] more p = rw (append-nil h)
lines_held h (b ∷ l) more p =
    by_test (eqb b 10)
    (λ e. let q : suc (length l) ≤ 0 = rw e at p in absurd (omega arith))
    (λ e.
    let q : suc (length l) ≤ suc (end_of l) = rw e at p in
    rw e
    (ap (λ (x : List ℕ). cut_lines x (l ++ more)) (take_cut 81 h (b ∷ []))
    ∙ lines_held (h ++ (b ∷ [])) l more (omega arith)
    ∙ ap (λ (x : List ℕ). cut_lines (take 81 x) more) (append_assoc h (b ∷ []) l)))

-- ---- one cut

pub held_few : (line : List ℕ) (m : ℕ) → m ≤ 81 → take m line ≡ take 81 (take m line)
held_few line m h = sym (take_all 81 (take m line) (omega (arith, length-take m line)))

module _ (piece line : List ℕ) (m : ℕ) (few : m ≤ 81) (more : List ℕ) where
  given_ended : (bytes : List ℕ) (taken : ℕ) → Ended piece (take m line) bytes taken
      → (bytes ∷ []) ++ cut_lines [] more ≡ cut_lines (take m line) (take taken piece ++ more)
  given_ended bytes taken e =
      sym
      (ap (λ (h : List ℕ). cut_lines h (take taken piece ++ more)) (held_few line m few)
      ∙ ap (λ (n : ℕ). cut_lines (take 81 (take m line)) (take n piece ++ more)) e.taken_is
      ∙ lines_ended (take m line) piece more e.inside
      ∙ ap (λ (l : List ℕ). l ∷ cut_lines [] more) (sym e.bytes_are))

  -- what a cut leaves of the rest's lines: those after the one that it gave
  pub cut_rest : (c : Cutting) (line' : List ℕ) → Gives piece line m c line'
      → line_of c piece line' ++ cut_lines (take (held_by c) line') more ≡ cut_lines (take m line) (take (taken_by c piece) piece ++ more)
  cut_rest (Open n) line' g =
      sym
      (ap (λ (h : List ℕ). cut_lines h (take (length piece) piece ++ more)) (held_few line m few)
      ∙ ap (λ (l : List ℕ). cut_lines (take 81 (take m line)) (l ++ more)) (take_all (length piece) piece (omega arith))
      ∙ lines_held (take m line) piece more g.ended
      ∙ ap (λ (h : List ℕ). cut_lines h more) (sym g.bytes_are))
  cut_rest (Whole size taken) line' g = given_ended (take size piece) taken g.2
  cut_rest (Joined size taken) line' g = given_ended (take size line') taken g.1

-- ---- a run of cuts

run_cuts : {h : List ℕ} {parts lines : List (List ℕ)} → Cuts h parts lines → lines ≡ cut_lines h (whole parts)
run_cuts (ends h) = refl
run_cuts (cuts piece line m few room c line' is parts lines r) =
    ap (λ (ls : List (List ℕ)). line_of c piece line' ++ ls) (run_cuts r)
    ∙ cut_rest piece line m few (whole parts) c line' (cut_gives piece line m room c line' is)

-- ---- a whole input

-- what came of a line before, in front of the lines that follow
abbrev after : List ℕ → List (List ℕ) → List (List ℕ)
after p [] = unended p
after p (l ∷ ls) = (p ++ l) ∷ ls

after_onto : (p : List ℕ) (b : ℕ) (ls : List (List ℕ)) → after p (onto b ls) ≡ after (p ++ (b ∷ [])) ls
after_onto [] b [] = refl
after_onto (x ∷ p) b [] = refl
after_onto p b (l ∷ ls) = ap (λ (r : List ℕ). r ∷ ls) (sym (append_assoc p (b ∷ []) l))

after_none : (ls : List (List ℕ)) → after [] ls ≡ ls
after_none [] = refl
after_none (l ∷ ls) = refl

unended_first : (p : List ℕ) → unended (take 81 p) ≡ firsts (unended p)
unended_first [] = refl
unended_first (b ∷ p) = refl

lines_after : (p l : List ℕ) → cut_lines (take 81 p) l ≡ firsts (after p (lines_of l))
lines_after p [] = unended_first p
lines_after p (b ∷ l) =
    by_test (eqb b 10)
    (λ e. rw (e, append-nil p) (ap (λ (ls : List (List ℕ)). take 81 p ∷ ls) (lines_after [] l ∙ ap firsts (after_none (lines_of l)))))
    (λ e.
    rw e
    (ap (λ (h : List ℕ). cut_lines h l) (take_cut 81 p (b ∷ []))
    ∙ lines_after (p ++ (b ∷ [])) l
    ∙ ap firsts (sym (after_onto p b (lines_of l)))))

-- from nothing held
pub input_lines : (l : List ℕ) → cut_lines [] l ≡ firsts (lines_of l)
input_lines l = lines_after [] l ∙ ap firsts (after_none (lines_of l))

pub cuts_give : {parts lines : List (List ℕ)} → Cuts [] parts lines → lines ≡ firsts (lines_of (whole parts))
cuts_give {parts} r = run_cuts r ∙ input_lines (whole parts)
