-- The line program's theorem: whatever parts an input comes in, what is put out for it is the text of the answers to its lines.
-- Assumes nothing.
use mathlib.Core.Path.{◌≡◌, refl, sym, ap, ◌∙◌}
use mathlib.Core.Bool.{true, false}
use mathlib.Core.List.{List, [], ◌∷◌, ◌++◌, append_assoc, append-nil}
use Prim.Native.Nat.{ℕ, ◌≤◌}
use native.Mathlib.Omega.{arith}
use lib.Dec.{eqb}
use lib.ListN.{length, take, length-take}
use borrow.Author.Tests.{eq-eqb, ne_eqb}
use Rattle.lists.proofs.Tests.{by_test}
use Rattle.fields.specs.Lines.{lines_of}
use Rattle.fields.specs.Cuts.{whole, firsts, unended, cut_lines}
use Rattle.fields.proofs.PieceLaws.{input_lines}
use Rattle.lines.specs.Replies.{text_of, Reply}
use Rattle.lines.specs.Sessions.{World, respond, answers}
use Rattle.lines.specs.Streams.{Progress, progress, byte}
use Rattle.lines.specs.Inputs.{fed, ended}
use Rattle.lines.proofs.CommandLaws.{command_first}
use Rattle.answers.specs.Answers.{After}

-- ---- parts of an input

-- What the program puts out for an input that comes in parts: the answers of each part, and at the end those of the line that is
-- held. Between the parts the list is emptied.
unfoldable pub put_out : World → List ℕ → List (List ℕ) → List ℕ
put_out w h [] = (ended (progress w h [])).text
put_out w h (p ∷ ps) = (fed (progress w h []) p).text ++ put_out (fed (progress w h []) p).world (fed (progress w h []) p).held ps

-- ---- one byte

pub byte_line : (s : Progress) (b : ℕ) → eqb b 10 ≡ true
    → byte s b ≡ progress (respond s.world s.held).left [] (s.text ++ text_of (respond s.world s.held).answer)
unfolding byte
byte_line s b e = rw e

pub byte_held : (s : Progress) (b : ℕ) → eqb b 10 ≡ false → byte s b ≡ progress s.world (take 81 (s.held ++ (b ∷ []))) s.text
unfolding byte
byte_held s b e = rw e

-- ---- what was put out before stays in front

abbrev pub behind : List ℕ → Progress → Progress
behind t s = progress s.world s.held (t ++ s.text)

byte_behind : (t : List ℕ) (s : Progress) (b : ℕ) → byte (behind t s) b ≡ behind t (byte s b)
byte_behind t s b =
    by_test (eqb b 10)
    (λ e. byte_line (behind t s) b e
    ∙ (λ i. progress (respond s.world s.held).left [] (append_assoc t s.text (text_of (respond s.world s.held).answer) i))
    ∙ ap (behind t) (sym (byte_line s b e)))
    (λ e. byte_held (behind t s) b e ∙ ap (behind t) (sym (byte_held s b e)))

pub fed_behind : (t : List ℕ) (s : Progress) (l : List ℕ) → fed (behind t s) l ≡ behind t (fed s l)
fed_behind t s [] = refl
fed_behind t s (b ∷ l) = ap (λ (x : Progress). fed x l) (byte_behind t s b) ∙ fed_behind t (byte s b) l

pub ended_behind : (t : List ℕ) (s : Progress) → ended (behind t s) ≡ behind t (ended s)
unfolding ended
ended_behind t s =
    by_test (eqb (length s.held) 0)
    (λ e. rw e)
    (λ e. rw e (byte_behind t s 10))

-- ---- parts

pub fed_append : (s : Progress) (a b : List ℕ) → fed s (a ++ b) ≡ fed (fed s a) b
fed_append s [] b = refl
fed_append s (x ∷ a) b = fed_append (byte s x) a b

-- the parts one by one put out what the whole does
put_whole : (w : World) (h : List ℕ) (ps : List (List ℕ)) → put_out w h ps ≡ (ended (fed (progress w h []) (whole ps))).text
unfolding put_out
put_whole w h [] = refl
put_whole w h (p ∷ ps) =
    let s = fed (progress w h []) p in
    let e : behind s.text (progress s.world s.held []) ≡ s = (λ i. progress s.world s.held (append-nil s.text i)) in
    ap (λ (t : List ℕ). s.text ++ t) (put_whole s.world s.held ps)
    ∙ ap (λ (x : Progress). x.text) (sym (ended_behind s.text (fed (progress s.world s.held []) (whole ps))))
    ∙ ap (λ (x : Progress). (ended x).text) (sym (fed_behind s.text (progress s.world s.held []) (whole ps)))
    ∙ ap (λ (x : Progress). (ended (fed x (whole ps))).text) e
    ∙ ap (λ (x : Progress). (ended x).text) (sym (fed_append (progress w h []) p (whole ps)))

-- ---- lines

-- a line asks for what its first 81 bytes ask for
pub respond_first : (w : World) (l : List ℕ) → respond w (take 81 l) ≡ respond w l
unfolding respond
respond_first w l = rw (command_first l)

answers_firsts : (w : World) (ls : List (List ℕ)) → answers w (firsts ls) ≡ answers w ls
answers_firsts w [] = refl
answers_firsts w (l ∷ ls) =
    ap (λ (h : After World Reply). text_of h.answer ++ answers h.left (firsts ls)) (respond_first w l)
    ∙ ap (λ (t : List ℕ). text_of (respond w l).answer ++ t) (answers_firsts (respond w l).left ls)

pub ended_none : (s : Progress) → length s.held ≡ 0 → ended s ≡ s
unfolding ended
ended_none s e = rw (eq-eqb (length s.held) 0 e)

pub ended_held : (s : Progress) → (length s.held ≡ 0 → ⊥) → ended s ≡ byte s 10
unfolding ended
ended_held s e = rw (ne_eqb (length s.held) 0 e)

ends : (w : World) (h t : List ℕ) → (ended (progress w h t)).text ≡ t ++ answers w (unended h)
ends w [] t = ap (λ (s : Progress). s.text) (ended_none (progress w [] t) refl) ∙ sym (append-nil t)
ends w (x ∷ h) t =
    ap (λ (s : Progress). s.text) (ended_held (progress w (x ∷ h) t) (λ z. omega arith) ∙ byte_line (progress w (x ∷ h) t) 10 refl)
    ∙ ap (λ (a : List ℕ). t ++ a) (sym (append-nil (text_of (respond w (x ∷ h)).answer)))

-- the bytes h of a line are held: the answers to the lines that the cuts of the rest give
lines_fed : (w : World) (h t l : List ℕ) → (ended (fed (progress w h t) l)).text ≡ t ++ answers w (cut_lines h l)
lines_fed w h t [] = ends w h t
lines_fed w h t (b ∷ l) =
    by_test (eqb b 10)
    (λ e.
    let r = respond w h in
    ap (λ (s : Progress). (ended (fed s l)).text) (byte_line (progress w h t) b e)
    ∙ lines_fed r.left [] (t ++ text_of r.answer) l
    ∙ append_assoc t (text_of r.answer) (answers r.left (cut_lines [] l))
    ∙ rw e)
    (λ e.
    ap (λ (s : Progress). (ended (fed s l)).text) (byte_held (progress w h t) b e)
    ∙ lines_fed w (take 81 (h ++ (b ∷ []))) t l
    ∙ rw e)

-- An input as a whole: what is put out is the text of the answers to its lines, in order.
pub input_answers : (w : World) (l : List ℕ) → (ended (fed (progress w [] []) l)).text ≡ answers w (lines_of l)
input_answers w l = lines_fed w [] [] l ∙ ap (answers w) (input_lines l) ∙ answers_firsts w (lines_of l)

-- THE THEOREM. An input that comes in any parts: what is put out is the same.
pub program : (w : World) (parts : List (List ℕ)) → put_out w [] parts ≡ answers w (lines_of (whole parts))
program w parts = put_whole w [] parts ∙ input_answers w (whole parts)

-- ---- what is held

byte_few : (s : Progress) (b : ℕ) → length (byte s b).held ≤ 81
byte_few s b =
    by_test (eqb b 10)
    (λ e. omega (arith, ap (λ (x : Progress). length x.held) (byte_line s b e)))
    (λ e. omega (arith, ap (λ (x : Progress). length x.held) (byte_held s b e), length-take 81 (s.held ++ (b ∷ []))))

-- never more than 81 bytes
pub fed_few : (s : Progress) (l : List ℕ) → length s.held ≤ 81 → length (fed s l).held ≤ 81
fed_few s [] h = h
fed_few s (b ∷ l) h = fed_few (byte s b) l (byte_few s b)

-- and nothing after the end
pub ended_bare : (w : World) (h t : List ℕ) → (ended (progress w h t)).held ≡ []
ended_bare w [] t = ap (λ (s : Progress). s.held) (ended_none (progress w [] t) refl)
ended_bare w (b ∷ h) t =
    ap (λ (s : Progress). s.held) (ended_held (progress w (b ∷ h) t) (λ z. omega arith) ∙ byte_line (progress w (b ∷ h) t) 10 refl)
