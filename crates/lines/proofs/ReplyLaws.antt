-- The texts of the answers, put into a list, and how long they are.
-- Assumes nothing.
use mathlib.Core.Path.{◌≡◌, refl, sym, ap, ◌∙◌}
use mathlib.Core.List.{List, [], ◌∷◌, ◌++◌, append_assoc, append-nil}
use mathlib.Core.Option.{Option, none, some}
use Prim.Native.Nat.{ℕ, zero, suc, ◌+◌, ◌*◌, ◌≤◌}
use native.Mathlib.Numerals.{add-one}
use native.Mathlib.Omega.{arith}
use lib.ListN.{length, take, length-append}
use Rattle.std.specs.Prelude as rust
use Rattle.std.specs.List.{zip, range_with_len}
use Rattle.std.proofs.lemmas.Iterator.{YieldsList}
use Rattle.rounds.specs.Ledgers.{Sheet, sheet}
use Rattle.rounds.specs.Plans.{sheets}
use Rattle.orders.specs.declared.consistent_reservoir.Exchange.{Exchange}
use Rattle.fields.specs.Printing.{tabbed, line_end}
use Rattle.fields.specs.Texts.{PutsFirst}
use Rattle.fields.specs.declared.texts.Text.{Text}
use Rattle.fields.proofs.FieldLaws.{next_some, next_none}
use Rattle.fields.proofs.DecimalLaws.{length_decimal, length_tabbed}
use Rattle.fields.proofs.PutLaws.{first_none, first_then}
use Rattle.lines.specs.Replies.{joined_word, withdrawn_word, refused_word, slot_text, place_line, place_lines, text_of, reply_text}
use Rattle.lines.specs.InnerLines.{admitted_reply, accepted_reply}
use Rattle.lines.specs.declared.texts.Accepted.{Accepted}
use Rattle.lines.specs.declared.texts.Accepted.TheVariants as accepted
use Rattle.answers.specs.Answers.{refusal}

-- ---- the lines of a plan

-- those of places, each with its location and its slot
abbrev pub lines : List (ℕ × (ℕ × ℕ)) → List ℕ
lines [] = []
lines (p ∷ ps) = place_line p.0 (sheet p.1.0 (some p.1.1)) ++ lines ps

-- the first k places of two lists
pub lines_zip : (a k : ℕ) (ls ts : List ℕ) → place_lines a (sheets (take k ls) (take k ts)) ≡ lines (zip (range_with_len a k) (zip ls ts))
lines_zip a zero ls ts = refl
lines_zip a (suc k) [] ts = refl
lines_zip a (suc k) (x ∷ ls) [] = refl
lines_zip a (suc k) (x ∷ ls) (t ∷ ts) =
    ap (λ (l : List ℕ). place_line a (sheet x (some t)) ++ l)
    (lines_zip (suc a) k ls ts ∙ ap (λ (n : ℕ). lines (zip (range_with_len n k) (zip ls ts))) (sym (add-one a)))

length_zip : {A B : Type 0} (ks : List A) (vs : List B) → (length (zip ks vs) ≤ length ks) × (length (zip ks vs) ≤ length vs)
length_zip [] vs = (omega arith, omega arith)
length_zip (k ∷ ks) [] = (omega arith, omega arith)
length_zip (k ∷ ks) (v ∷ vs) = let l = length_zip ks vs in (omega (arith, l), omega (arith, l))

pub length_places_zip : (ks ls ts : List ℕ) → length (zip ks (zip ls ts)) ≤ length ls
length_places_zip ks ls ts = omega (arith, length_zip ks (zip ls ts), length_zip ls ts)

-- ---- how long the texts are

length_slot : (o : Option ℕ) → length (slot_text o) ≤ 11
length_slot none = omega arith
length_slot (some s) = length_tabbed s

pub length_place : (i : ℕ) (s : Sheet) → length (place_line i s) ≤ 33
unfolding place_line
length_place i s = simp length-append (omega (arith, length_decimal i, length_tabbed s.location, length_slot s.terminal))

pub length_lines : (ps : List (ℕ × (ℕ × ℕ))) → length (lines ps) ≤ 33 * length ps
length_lines [] = omega arith
length_lines (p ∷ ps) =
    let s = sheet p.1.0 (some p.1.1) in
    omega (arith, length-append (place_line p.0 s) (lines ps), length_place p.0 s, length_lines ps)

pub length_plan : (k : ℕ) (ls ts : List ℕ) → length (place_lines 0 (sheets (take k ls) (take k ts))) ≤ 33 * length ls
length_plan k ls ts =
    let ps = zip (range_with_len 0 k) (zip ls ts) in
    omega (arith, ap length (lines_zip 0 k ls ts), length_lines ps, length_places_zip (range_with_len 0 k) ls ts)

-- a word, a number and the line's end
length_one : (w : List ℕ) (n : ℕ) → length (w ++ tabbed n ++ line_end) ≤ length w + 12
length_one w n = simp length-append (omega (arith, length_tabbed n))

length_admitted : (o : rust.Option Exchange) → length (reply_text (admitted_reply o)) ≤ 32
unfolding reply_text
length_admitted (rust.Some e) = simp length-append (omega (arith, length_tabbed e.enters, length_tabbed e.leaves))
length_admitted rust.None = omega arith

-- no answer is longer than a plan of all places and a line
pub length_answer : (a : Accepted) (ls ts : List ℕ) → length (reply_text (accepted_reply a ls ts)) ≤ 33 * length ls + 32
unfolding reply_text
length_answer accepted.Opened ls ts = omega arith
length_answer (accepted.Admitted e) ls ts = omega (arith, length_admitted e)
length_answer (accepted.Joined s) ls ts = omega (arith, length_one joined_word s)
length_answer (accepted.Withdrawn s) ls ts = omega (arith, length_one withdrawn_word s)
length_answer (accepted.Planned k) ls ts = omega (arith, length_plan k ls ts)

pub length_refused : (c : ℕ) → length (text_of (refusal c)) ≤ 32
unfolding text_of
length_refused c = omega (arith, length_one refused_word c)

-- ---- a loop that puts the lines of a plan

-- so far: the iterator still yields the places of the lines that are not put yet
pub record Listing {S A : Type 0} (steps : S → rust.Option A → S → Type 0) (v : A → ℕ × (ℕ × ℕ)) (it : S) (all : List ℕ) (t u : Text) : Type 0 where
  pub rest : List (ℕ × (ℕ × ℕ))
  pub yields : YieldsList steps v it rest
  pub front : List ℕ
  pub is : all ≡ front ++ lines rest
  pub puts : PutsFirst t front u

module _ {S A : Type 0} {steps : S → rust.Option A → S → Type 0} {v : A → ℕ × (ℕ × ℕ)} {it : S} (all : List ℕ) (t : Text) where
  pub listing_start : (rest : List (ℕ × (ℕ × ℕ))) → YieldsList steps v it rest → all ≡ lines rest → Listing steps v it all t t
  listing_start rest w e = record {
    rest = rest;
    yields = w;
    front = [];
    is = e;
    puts = first_none t.out.now t.len t.fits;
  }

  module _ (u : Text) (l : Listing steps v it all t u) where
    pub listing_more : (x : A) (it' : S) (u' : Text) → steps it (rust.Some x) it' → length u.out.now ≡ length t.out.now
        → PutsFirst u (place_line (v x).0 (sheet (v x).1.0 (some (v x).1.1))) u' → Listing steps v it' all t u'
    listing_more x it' u' p same puts =
        let n = next_some {t = it'} {x = x} l.yields p in
        let line = place_line (v x).0 (sheet (v x).1.0 (some (v x).1.1)) in
        record {
          rest = n.rest;
          yields = n.yields;
          front = l.front ++ line;
          is = l.is ∙ ap (λ (r : List (ℕ × (ℕ × ℕ))). l.front ++ lines r) n.is ∙ sym (append_assoc l.front line (lines n.rest));
          puts = first_then l.front line same l.puts puts;
        }

    pub listing_end : (it' : S) → steps it rust.None it' → PutsFirst t all u
    listing_end it' p =
        let n = next_none {t = it'} l.yields p in
        let e : all ≡ l.front = l.is ∙ ap (λ (r : List (ℕ × (ℕ × ℕ))). l.front ++ lines r) n ∙ append-nil l.front in
        rw e l.puts
