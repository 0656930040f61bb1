-- Bytes taken line by line, as the code takes them.
-- Assumes nothing.
use mathlib.Core.Path.{◌≡◌, refl, sym, ap, ◌∙◌, subst}
use mathlib.Core.Bool.{or-true}
use mathlib.Core.List.{List, [], ◌∷◌, ◌++◌, append_assoc, append-nil}
use Prim.Native.Nat.{ℕ, suc, ◌+◌, ◌-◌, ◌≤◌, ◌<◌}
use native.Mathlib.Omega.{arith}
use borrow.Author.Tests.{le-leb, lt-leb, lt-ltb, le-ltb, ne_eqb}
use lib.Dec.{eqb}
use lib.ListN.{length, take, drop, get_or, length-append, length-take, length-drop, drop_of_length-le}
use lib.Seq.{take_at, drop-drop, length-take-le, drop-cons}
use Rattle.answers.specs.Answers.{refusal, result, After, after}
use Rattle.lists.specs.Lists.{written}
use Rattle.lists.proofs.Tests.{by_test}
use Rattle.lines.specs.Replies.{text_of, Reply}
use Rattle.lines.specs.Sessions.{World, respond}
use Rattle.lines.specs.Streams.{Progress, progress, byte, fed_part, fed_up_to, room_for, count, feed_call, end_call, feed_memory}
use Rattle.fields.specs.Texts.{Put}
use Rattle.lines.specs.InnerSessions.{Stepped, Took}
use Rattle.fields.specs.Cuts.{end_of}
use Rattle.fields.proofs.CutLaws.{take_cut, Ended, Held}
use Rattle.fields.proofs.PieceLaws.{held_few}
use Rattle.fields.proofs.PutLaws.{put_none, put_written}
use Rattle.lines.proofs.StreamLaws.{byte_line, byte_held}

-- ---- a line's answer

-- what a line leaves and what it puts out
abbrev pub Hears : After World Reply → World → List ℕ → ℕ → List ℕ → ℕ → Type 0
Hears h w out at out' put = (w ≡ h.left) × Put out at (text_of h.answer) out' put

-- ---- bytes up to the first line feed

module _ (most : ℕ) (w : World) (t : List ℕ) (m : length t ≤ most) where
  feed_one : (h : List ℕ) (b : ℕ) (l : List ℕ) → fed_up_to most (progress w h t) (b ∷ l) ≡ fed_up_to most (byte (progress w h t) b) l
  feed_one h b l = rw (le-leb (length t) most m)

  -- the line that a line feed ends
  pub feed_line : (h l : List ℕ) → end_of l < length l
      → fed_up_to most (progress w (take 81 h) t) l
      ≡ fed_up_to most (progress (respond w (take 81 (h ++ take (end_of l) l))).left [] (t ++ text_of (respond w (take 81 (h ++ take (end_of l) l))).answer)) (drop (suc (end_of l)) l)
  feed_line h [] p = absurd (omega arith)
  feed_line h (b ∷ l) p =
      by_test (eqb b 10)
      (λ e. rw (e, append-nil h) (feed_one (take 81 h) b l ∙ ap (λ (s : Progress). fed_up_to most s l) (byte_line (progress w (take 81 h) t) b e)))
      (λ e.
      let q : suc (end_of l) < suc (length l) = rw e at p in
      let n : end_of l < length l = omega arith in
      let a : (h ++ (b ∷ [])) ++ take (end_of l) l ≡ h ++ b ∷ take (end_of l) l = append_assoc h (b ∷ []) (take (end_of l) l) in
      rw (e, ← a)
      (feed_one (take 81 h) b l
      ∙ ap (λ (s : Progress). fed_up_to most s l) (byte_held (progress w (take 81 h) t) b e ∙ ap (λ (x : List ℕ). progress w x t) (take_cut 81 h (b ∷ [])))
      ∙ feed_line (h ++ (b ∷ [])) l n))

  -- bytes with no line feed are held
  pub feed_held : (h l : List ℕ) → length l ≤ end_of l → fed_up_to most (progress w (take 81 h) t) l ≡ fed_part (progress w (take 81 (h ++ l)) t) []
  feed_held h [] p = rw (append-nil h)
  feed_held h (b ∷ l) p =
      by_test (eqb b 10)
      (λ e. let q : suc (length l) ≤ 0 = rw e at p in absurd (omega arith))
      (λ e.
      let q : suc (length l) ≤ suc (end_of l) = rw e at p in
      let n : length l ≤ end_of l = omega arith in
      feed_one (take 81 h) b l
      ∙ ap (λ (s : Progress). fed_up_to most s l) (byte_held (progress w (take 81 h) t) b e ∙ ap (λ (x : List ℕ). progress w x t) (take_cut 81 h (b ∷ [])))
      ∙ feed_held (h ++ (b ∷ [])) l n
      ∙ ap (λ (x : List ℕ). fed_part (progress w (take 81 x) t) []) (append_assoc h (b ∷ []) l))

-- ---- one turn

-- what stands in the list after a text was put into it
put_take : {out text out' : List ℕ} {at put : ℕ} → Put out at text out' put → take put out' ≡ take at out ++ text
unfolding written
put_take {out} {text} {out'} {at} {put} p =
    let n : length (take at out ++ text) ≡ put = omega (arith, length-append (take at out) text, length-take-le at out p.within, p.next_is) in
    ap (take put) (p.bytes ∙ sym (append_assoc (take at out) text (drop (length text) (drop at out))))
    ∙ take_at (take at out ++ text) (drop (length text) (drop at out)) put n

module _ (bytes : List ℕ) (w : World) (line out : List ℕ) (held at : ℕ) (few : held ≤ 81) where
  -- a line feed is there, and its line was answered
  pub step_line : (got : List ℕ) (taken : ℕ) → Ended bytes (take held line) got taken → (w' : World) (line' out' : List ℕ) (put : ℕ) → Hears (respond w got) w' out at out' put
      → Stepped bytes w line out held at w' line' out' 0 taken put
  step_line got taken g w' line' out' put x =
      let a = respond w got in
      record {
        few = omega arith;
        some = omega (arith, g.taken_is);
        inside = omega (arith, g.taken_is, g.inside);
        text = text_of a.answer;
        puts = x.1;
        is = λ most m.
            let n : length (take at out) ≤ most = omega (arith, length-take at out) in
            let answered : After World Reply → Progress = λ z. progress z.left [] (take at out ++ text_of z.answer) in
            ap (λ (l : List ℕ). fed_up_to most (progress w l (take at out)) bytes) (held_few line held few)
            ∙ feed_line most w (take at out) n (take held line) bytes g.inside
            ∙ ap (λ (l : List ℕ). fed_up_to most (answered (respond w l)) (drop (suc (end_of bytes)) bytes)) (sym g.bytes_are)
            ∙ ap (λ (i : ℕ). fed_up_to most (answered a) (drop i bytes)) (sym g.taken_is)
            ∙ ap (λ (l : List ℕ). fed_up_to most (progress a.left [] l) (drop taken bytes)) (sym (put_take x.1))
            ∙ ap (λ (v : World). fed_up_to most (progress v [] (take put out')) (drop taken bytes)) (sym x.0);
      }

  -- none is there, and all bytes are held
  pub step_held : (line' : List ℕ) (n : ℕ) → Held bytes (take held line) (take n line') n → 0 < length bytes → at ≤ length out
      → Stepped bytes w line out held at w line' out n (length bytes) at
  step_held line' n g some a = record {
    few = g.few;
    some = some;
    inside = omega arith;
    text = [];
    puts = put_none out at a;
    is = λ most m.
        let q : length (take at out) ≤ most = omega (arith, length-take at out) in
        ap (λ (l : List ℕ). fed_up_to most (progress w l (take at out)) bytes) (held_few line held few)
        ∙ feed_held most w (take at out) q (take held line) bytes g.ended
        ∙ ap (λ (l : List ℕ). fed_part (progress w l (take at out)) []) (sym g.bytes_are)
        ∙ ap (fed_up_to most (progress w (take n line') (take at out))) (sym (drop_of_length-le bytes {i = length bytes} (omega arith)));
  }

-- ---- the loop

-- so far: what is left of the piece, from where it stands now, comes to what the whole piece does
pub record Going (most : ℕ) (start : Progress) (piece before : List ℕ) (w : World) (line out : List ℕ) (held : ℕ) (rest : List ℕ) (put : ℕ) : Type 0 where
  pub few : held ≤ 81
  pub inside : length rest ≤ length piece
  pub left : rest ≡ drop (length piece - length rest) piece
  pub fits : put ≤ length out
  pub same : out ≡ written (take put out) before
  pub on : fed_up_to most (progress w (take held line) (take put out)) rest ≡ fed_up_to most start piece

pub going_start : (most : ℕ) (w : World) (piece line out : List ℕ) (held : ℕ) → held ≤ 81 → Going most (progress w (take held line) []) piece out w line out held piece 0
unfolding written
going_start most w piece line out held h =
    let none : 0 ≡ length piece - length piece = omega arith in
    record { few = h; inside = omega arith; left = ap (λ (n : ℕ). drop n piece) none; fits = omega arith; same = refl; on = refl }

module _ (most : ℕ) (start : Progress) (piece before : List ℕ) (w : World) (line out : List ℕ) (held : ℕ) (rest : List ℕ) (put : ℕ) (g : Going most start piece before w line out held rest put) where
  -- another line
  pub going_more : (rest' : List ℕ) (w' : World) (line' out' : List ℕ) (held' n put' : ℕ) → put ≤ most → rest' ≡ drop n rest
      → put' ≤ length out' → Stepped rest w line out held put w' line' out' held' n put' → Going most start piece before w' line' out' held' rest' put'
  going_more rest' w' line' out' held' n put' m b f s =
      let size : length (take put out) ≡ put = length-take-le put out g.fits in
      let puts : Put (written (take put out) before) (length (take put out)) s.text out' put' =
      subst (λ (x : List ℕ). Put x (length (take put out)) s.text out' put') g.same
      (subst (λ (i : ℕ). Put out i s.text out' put') (sym size) s.puts) in
      let shorter : length rest' ≡ length rest - n = ap length b ∙ length-drop n rest in
      let past : n + (length piece - length rest) ≡ length piece - length rest' = omega (arith, shorter, s.inside, g.inside) in
      record {
        few = s.few;
        inside = omega (arith, shorter, g.inside);
        left = b ∙ ap (drop n) g.left ∙ drop-drop n (length piece - length rest) piece ∙ ap (λ (i : ℕ). drop i piece) (omega (arith, past));
        fits = f;
        same = put_written (take put out) before s.text puts ∙ ap (λ (x : List ℕ). written x before) (sym (put_take s.puts));
        on = ap (fed_up_to most (progress w' (take held' line') (take put' out'))) b ∙ sym (s.is most m) ∙ g.on;
      }

  -- the piece ends
  pub took_all : length rest ≤ 0 → Took most start piece before w line out held (length piece - length rest) put
  took_all h =
      let s = progress w (take held line) (take put out) in
      let e : rest ≡ [] = drop_of_length-le rest {i = 0} h in
      record {
        few = g.few;
        inside = omega arith;
        fits = g.fits;
        same = g.same;
        is = sym g.on ∙ ap (fed_up_to most s) e ∙ ap (fed_part s) (sym e ∙ g.left);
      }

  -- there may be no room for another answer
  pub took_full : 0 < length rest → most < put → Took most start piece before w line out held (length piece - length rest) put
  took_full h m =
      let s = progress w (take held line) (take put out) in
      let e : rest ≡ get_or rest 0 0 ∷ drop 1 rest = drop-cons rest 0 0 h in
      let n : most < length (take put out) = omega (arith, length-take-le put out g.fits) in
      let stop : fed_up_to most s (get_or rest 0 0 ∷ drop 1 rest) ≡ fed_part s (get_or rest 0 0 ∷ drop 1 rest) =
      rw (lt-leb (length (take put out)) most n) in
      record {
        few = g.few;
        inside = omega arith;
        fits = g.fits;
        same = g.same;
        is = sym g.on ∙ ap (fed_up_to most s) e ∙ stop ∙ ap (fed_part s) (sym e ∙ g.left);
      }

-- ---- the calls

module _ (w : World) (line piece out : List ℕ) (held : ℕ) where
  pub feed_many : 81 < held → after (refusal 12) (feed_memory w (take held line) held out) ≡ feed_call w line held piece out
  unfolding feed_call
  feed_many h = rw (lt-ltb 81 held h)

  pub feed_past : length line < held → after (refusal 12) (feed_memory w (take held line) held out) ≡ feed_call w line held piece out
  unfolding feed_call
  feed_past h = rw (lt-ltb (length line) held h, or-true)

  module _ (few : held ≤ 81) (within : held ≤ length line) where
    pub feed_short : length line < 81 → after (refusal 4) (feed_memory w (take held line) held out) ≡ feed_call w line held piece out
    unfolding feed_call
    feed_short h = rw (le-ltb 81 held few, le-ltb (length line) held within, lt-ltb (length line) 81 h)

    pub feed_close : length out < room_for w.locations → after (refusal 4) (feed_memory w (take held line) held out) ≡ feed_call w line held piece out
    unfolding feed_call
    feed_close h = rw (le-ltb 81 held few, le-ltb (length line) held within, lt-ltb (length out) (room_for w.locations) h, or-true)

    pub feed_took : (most : ℕ) (w' : World) (line' out' : List ℕ) (held' taken put : ℕ) → most ≡ length out - room_for w.locations
        → 81 ≤ length line → room_for w.locations ≤ length out → length line' ≡ length line
        → Took most (progress w (take held line) []) piece out w' line' out' held' taken put
        → after (result (count taken put)) (feed_memory w' (take held' line') held' out') ≡ feed_call w line held piece out
    unfolding feed_call
    feed_took most w' line' out' held' taken put m l r k t =
        let a : length piece - length (drop taken piece) ≡ taken = omega (arith, t.inside, length-drop taken piece) in
        let b : length (take put out') ≡ put = length-take-le put out' t.fits in
        let c : length (take held' line') ≡ held' = length-take-le held' line' (omega (arith, t.few)) in
        rw (
          le-ltb 81 held few,
          le-ltb (length line) held within,
          le-ltb (length line) 81 l,
          le-ltb (length out) (room_for w.locations) r,
          ← m,
          t.is,
          a,
          b,
          c,
          ← t.same,
        )

-- ---- the end

module _ (w : World) (line out : List ℕ) (held : ℕ) where
  pub end_bare : held ≡ 0 → after (result (count 0 0)) (feed_memory w (take held line) held out) ≡ end_call w line held out
  unfolding end_call
  end_bare e = rw e

  pub end_held : (held ≡ 0 → ⊥) → feed_call w line held (10 ∷ []) out ≡ end_call w line held out
  unfolding end_call
  end_held e = rw (ne_eqb held 0 e)
