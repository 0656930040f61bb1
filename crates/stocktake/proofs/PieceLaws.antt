-- Laws of the program's own functions: what an accepted call did to where the session stands, and calls and pieces one after the other.
-- Assumes nothing.
use mathlib.Core.Path.{◌≡◌, refl, sym, ap, ◌∙◌, subst}
use mathlib.Core.List.{List, [], ◌∷◌, ◌++◌, append_assoc, append-nil}
use Prim.Native.Nat.{ℕ, ◌≤◌, ◌<◌, ◌-◌}
use native.Mathlib.Omega.{arith}
use lib.ListN.{length, take, drop, length-take, length-drop, take-append-drop}
use lib.Seq.{length-take-le, take_all}
use Rattle.std.specs.Prelude.{Option, Ok, Err, IfSome}
use Rattle.std.specs.Io.KnownBytes.{Appends, Consumes, IsAtEnd}
use Rattle.std.proofs.KnownBytes.{Appends-nil, Appends-trans, Consumes-nil, Consumes-trans, Consumes-whole}
use Rattle.answers.specs.declared.Refusal.{Refusal}
use Rattle.answers.specs.Refusals.{number}
use Rattle.answers.specs.Answers.{After}
use Rattle.lists.proofs.Writing.{written_take}
use Rattle.lines.specs.declared.sessions.Session.{Session}
use Rattle.lines.specs.declared.sessions.Fed.{Fed}
use Rattle.fields.specs.Lines.{lines_of}
use Rattle.lines.specs.Sessions.{World, answers}
use Rattle.lines.specs.Streams.{Progress, progress, after_call, feed_call, end_call, FeedMemory, Count}
use Rattle.lines.specs.Inputs.{fed, ended, Fits}
use Rattle.lines.proofs.StreamLaws.{behind, fed_behind, ended_behind, fed_append, fed_few, ended_bare, input_answers}
use Rattle.lines.proofs.PartLaws.{feed_feeds, feed_within, feed_text, finish_ends, finish_within, feed_not_refused, finish_not_refused}
use Rattle.stocktake.specs.Pieces.{taken_in, emptied, Written}

-- ---- a call of feed or finish

-- bytes are no end
taken_some : (s : Progress) (l : List ℕ) → 0 < length l → taken_in s l ≡ fed s l
taken_some s [] p = absurd (omega arith)
taken_some s (b ∷ l) p = refl

-- an accepted call: what it was lent fits as before, and it took in some bytes, or the end
pub record Stepped (start : Progress) (bytes : List ℕ) (held : ℕ) (line : List ℕ) (w : World) (out : List ℕ) (put : ℕ) : Type 0 where
  pub fits : Fits held line w out
  pub within : put ≤ length out
  pub stands : progress w (take held line) [] ≡ emptied (taken_in start bytes)
  pub text : take put out ≡ (taken_in start bytes).text

pub step_written : {start : Progress} {bytes line out : List ℕ} {held put : ℕ} {w : World} → Stepped start bytes held line w out put
    → (had has : Option (List ℕ)) → Appends had has (take put out) → Written start bytes (progress w (take held line) []) had has
step_written s had has a = record { stands = s.stands; text = subst (Appends had has) s.text a }

module _ (w : World) (line : List ℕ) (m : ℕ) (out : List ℕ) (fits : Fits m line w out) where
  abbrev start : Progress
  start = progress w (take m line) []

  pub feed_accepted : (piece : List ℕ) (why : Refusal) (s : Session) (w' : World) (line' out' : List ℕ)
      → after_call (Err why) s w' line' out' ≡ feed_call w line m piece out → ⊥
  feed_accepted piece why s w' line' out' is = feed_not_refused w line m piece out fits (number why) (sym (ap (λ (a : After FeedMemory Count). a.answer) is))

  pub finish_accepted : (why : Refusal) (s : Session) (w' : World) (line' out' : List ℕ)
      → after_call (Err why) s w' line' out' ≡ end_call w line m out → ⊥
  finish_accepted why s w' line' out' is = finish_not_refused w line m out fits (number why) (sym (ap (λ (a : After FeedMemory Count). a.answer) is))

  module _ (f : Fed) (s : Session) (w' : World) (line' out' : List ℕ) where
    pub feed_took : (piece : List ℕ) → after_call (Ok f) s w' line' out' ≡ feed_call w line m piece out
        → (f.taken ≤ length piece) × (0 < length piece → 0 < f.taken)
    feed_took piece is =
        let done = feed_feeds w line m piece out f.taken f.put (sym (ap (λ (a : After FeedMemory Count). a.answer) is)) in
        (done.inside, done.some)

    module _ (kept : length line' ≡ length line) (same : length w'.locations ≡ length w.locations) (long : length out' ≡ length out) where
      pub feed_stepped : (piece : List ℕ) → 0 < length piece → after_call (Ok f) s w' line' out' ≡ feed_call w line m piece out
          → Stepped start (take f.taken piece) s.held line' w' out' f.put
      feed_stepped piece p is =
          let done = feed_feeds w line m piece out f.taken f.put (sym (ap (λ (a : After FeedMemory Count). a.answer) is)) in
          let t = take f.taken piece in
          let n : length t ≡ f.taken = length-take-le f.taken piece done.inside in
          let all : fed start t ≡ taken_in start t = sym (taken_some start t (omega (arith, n, done.some p))) in
          let o : out' ≡ (feed_call w line m piece out).left.out = ap (λ (a : After FeedMemory Count). a.left.out) is in
          let few : length (take m line) ≤ 81 = omega (arith, fits.held, length-take m line) in
          let size : s.held ≡ length (fed start t).held = ap (λ (a : After FeedMemory Count). a.left.size) is ∙ done.size_is ∙ ap length done.held_is in
          record {
            fits = record {
              held = omega (arith, size, fed_few start t few);
              line = omega (arith, kept, fits.line);
              out = omega (arith, same, long, fits.out);
            };
            within = omega (arith, feed_within done (sym (ap length o) ∙ long), long);
            stands = (λ i. progress ((ap (λ (a : After FeedMemory Count). a.left.world) is ∙ done.world_is) i) ((ap (λ (a : After FeedMemory Count). a.left.held) is ∙ done.held_is) i) [])
                ∙ ap emptied all;
            text = ap (take f.put) o ∙ feed_text done ∙ ap (λ (x : Progress). x.text) all;
          }

      pub finish_stepped : after_call (Ok f) s w' line' out' ≡ end_call w line m out → Stepped start [] s.held line' w' out' f.put
      finish_stepped is =
          let done = finish_ends w line m out f.taken f.put (sym (ap (λ (a : After FeedMemory Count). a.answer) is)) in
          let o : out' ≡ (end_call w line m out).left.out = ap (λ (a : After FeedMemory Count). a.left.out) is in
          let none : take s.held line' ≡ [] = ap (λ (a : After FeedMemory Count). a.left.held) is ∙ done.held_is in
          record {
            fits = record {
              held = omega (arith, ap length none, length-take s.held line', kept, fits.line);
              line = omega (arith, kept, fits.line);
              out = omega (arith, same, long, fits.out);
            };
            within = omega (arith, finish_within done (sym (ap length o) ∙ long), long);
            stands = λ i. progress ((ap (λ (a : After FeedMemory Count). a.left.world) is ∙ done.world_is) i) ((none ∙ sym (ended_bare w (take m line) [])) i) [];
            text = ap (take f.put) (o ∙ done.out_is) ∙ written_take f.put (ended start).text out (sym done.put_is);
          }

-- ---- calls one after the other

-- where what was put out has been written, it is in front of all that comes
emptied_behind : (s : Progress) → behind s.text (emptied s) ≡ s
emptied_behind s = λ i. progress s.world s.held (append-nil s.text i)

-- what is fed after it, from where it was left
fed_on : (s now : Progress) (l : List ℕ) → now ≡ emptied s → fed s l ≡ behind s.text (fed now l)
fed_on s now l e =
    ap (λ (x : Progress). fed x l) (sym (emptied_behind s)) ∙ fed_behind s.text (emptied s) l ∙ ap (λ (x : Progress). behind s.text (fed x l)) (sym e)

behind_both : (t u : List ℕ) (s : Progress) → behind t (behind u s) ≡ behind (t ++ u) s
behind_both t u s = λ i. progress s.world s.held (sym (append_assoc t u s.text) i)

-- Part of a piece was taken in, and what that put out is written; the rest is still to come.
pub record Going (start : Progress) (piece : List ℕ) (now : Progress) (rest : List ℕ) (had has : Option (List ℕ)) : Type 0 where
  pub sofar : List ℕ
  pub is : taken_in start piece ≡ behind sofar (taken_in now rest)
  pub puts : Appends had has sofar

pub going_starts : (s : Progress) (piece : List ℕ) (had : Option (List ℕ)) → Going s piece s piece had had
going_starts s piece had = record { sofar = []; is = refl; puts = Appends-nil had }

module _ {start now : Progress} {piece rest : List ℕ} {had has has' : Option (List ℕ)} (now' : Progress) (n : ℕ)
    (going : Going start piece now rest had has) (step : Written now (take n rest) now' has has') where
  pub going_on : (left : List ℕ) → left ≡ drop n rest → 0 < length left → (0 < length rest → 0 < n) → Going start piece now' left had has'
  going_on left e h some =
      let long : length left ≡ length rest - n = ap length e ∙ length-drop n rest in
      let x = fed now (take n rest) in
      let all : taken_in now rest ≡ fed now rest = taken_some now rest (omega arith) in
      let part : taken_in now (take n rest) ≡ x = taken_some now (take n rest) (omega (arith, length-take n rest, some)) in
      let more : taken_in now' left ≡ fed now' left = taken_some now' left h in
      let on : taken_in now rest ≡ behind x.text (taken_in now' left) =
      all
      ∙ ap (fed now) (sym (take-append-drop n rest))
      ∙ fed_append now (take n rest) (drop n rest)
      ∙ ap (fed x) (sym e)
      ∙ fed_on x now' left (step.stands ∙ ap emptied part)
      ∙ ap (behind x.text) (sym more) in
      record {
        sofar = going.sofar ++ x.text;
        is = going.is ∙ ap (behind going.sofar) on ∙ behind_both going.sofar x.text (taken_in now' left);
        puts = Appends-trans had has has' going.sofar x.text going.puts (subst (λ (s : Progress). Appends has has' s.text) part step.text);
      }

  pub going_ends : length rest ≤ n → Written start piece now' had has'
  going_ends h =
      let last = taken_in now (take n rest) in
      let all : taken_in start piece ≡ behind going.sofar last =
      going.is ∙ ap (λ (l : List ℕ). behind going.sofar (taken_in now l)) (sym (take_all n rest h)) in
      record {
        stands = step.stands ∙ sym (ap emptied all);
        text = subst (λ (s : Progress). Appends had has' s.text) (sym all) (Appends-trans had has has' going.sofar last.text going.puts step.text);
      }

-- ---- the whole input

-- from nothing held: bytes were read and fed, and what that put out is written
pub record Running (w : World) (now : Progress) (given left had has : Option (List ℕ)) : Type 0 where
  pub bytes : List ℕ
  pub sofar : List ℕ
  pub read : Consumes given left bytes
  pub is : fed (progress w [] []) bytes ≡ behind sofar now
  pub puts : Appends had has sofar

pub running_starts : (w : World) (given had : Option (List ℕ)) → Running w (progress w [] []) given given had had
running_starts w given had = record { bytes = []; sofar = []; read = Consumes-nil given; is = refl; puts = Appends-nil had }

module _ {w : World} {now : Progress} {given left had has has' : Option (List ℕ)} (now' : Progress) (left' : Option (List ℕ)) (piece : List ℕ)
    (so : Running w now given left had has) (step : Written now piece now' has has') (took : Consumes left left' piece) where
  pub running_on : 0 < length piece → Running w now' given left' had has'
  running_on p =
      let x = fed now piece in
      let part : taken_in now piece ≡ x = taken_some now piece p in
      record {
        bytes = so.bytes ++ piece;
        sofar = so.sofar ++ x.text;
        read = Consumes-trans given left left' so.bytes piece so.read took;
        is = fed_append (progress w [] []) so.bytes piece
            ∙ ap (λ (s : Progress). fed s piece) so.is
            ∙ fed_behind so.sofar now piece
            ∙ ap (behind so.sofar) (fed_on x now' [] (step.stands ∙ ap emptied part))
            ∙ behind_both so.sofar x.text now';
        puts = Appends-trans had has has' so.sofar x.text so.puts (subst (λ (s : Progress). Appends has has' s.text) part step.text);
      }

  pub running_ends : length piece ≡ 0 → IsAtEnd left' → IfSome given (λ xs. Appends had has' (answers w (lines_of xs)))
  running_ends z end =
      let last = taken_in now piece in
      let none : piece ≡ [] = no_bytes piece z in
      let text : so.sofar ++ last.text ≡ answers w (lines_of (so.bytes ++ piece)) =
      ap (λ (l : List ℕ). so.sofar ++ (taken_in now l).text) none
      ∙ ap (λ (s : Progress). s.text) (sym (ended_behind so.sofar now))
      ∙ ap (λ (s : Progress). (ended s).text) (sym so.is)
      ∙ input_answers w so.bytes
      ∙ ap (λ (l : List ℕ). answers w (lines_of l)) (sym (append-nil so.bytes) ∙ ap (λ (l : List ℕ). so.bytes ++ l) (sym none)) in
      Consumes-whole given left' (so.bytes ++ piece) (λ xs. Appends had has' (answers w (lines_of xs)))
      (Consumes-trans given left left' so.bytes piece so.read took) end
      (subst (Appends had has') text (Appends-trans had has has' so.sofar last.text so.puts step.text))
    where
      no_bytes : (l : List ℕ) → length l ≡ 0 → l ≡ []
      no_bytes [] e = refl
      no_bytes (b ∷ l) e = absurd (omega arith)
