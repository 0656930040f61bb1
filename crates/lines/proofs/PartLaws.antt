-- What an accepted call of feed or finish did, for its callers and for the theorem over a whole input (StreamLaws): the part of the
-- piece that it took was fed, and what that puts out stands in the first places of the list.
-- Assumes nothing.
use mathlib.Core.Path.{◌≡◌, refl, sym, ap, ◌∙◌, subst}
use mathlib.Core.Bool.{true, true≢false, or-true, ◌||◌}
use mathlib.Core.List.{List, [], ◌∷◌}
use Prim.Native.Nat.{ℕ, suc, ◌-◌, ◌≤◌, ◌<◌}
use native.Mathlib.Omega.{arith}
use borrow.Author.Tests.{le-leb, le-ltb, lt-ltb, eqb-true, eqb-false}
use lib.Dec.{leb, ltb, eqb}
use lib.ListN.{length, take, drop, length-append, length-drop}
use lib.Seq.{length-take-le}
use Rattle.answers.specs.Answers.{Answer, refusal, result, After, after}
use Rattle.lists.specs.Lists.{written}
use Rattle.lists.proofs.Tests.{by_test, by_below, by_cond}
use Rattle.answers.proofs.AnswerLaws.{not_said, said_same}
use Rattle.lists.proofs.Writing.{written_take}
use Rattle.lines.specs.Sessions.{World}
use Rattle.lines.specs.Streams.{Progress, progress, byte, FedPart, fed_part, fed_up_to, room_for, Count, count, feed_call, end_call, FeedMemory, feed_memory}
use Rattle.lines.specs.Inputs.{fed, ended, Fits}
use Rattle.lines.proofs.StreamLaws.{ended_none, ended_held, byte_line}

-- ---- feeding as far as there is room

record Cut (most : ℕ) (s : Progress) (l : List ℕ) : Type 0 where
  n : ℕ
  inside : n ≤ length l
  some : 0 < length l → length s.text ≤ most → 0 < n
  is : fed_up_to most s l ≡ fed_part (fed s (take n l)) (drop n l)

cut : (most : ℕ) (s : Progress) (l : List ℕ) → Cut most s l
cut most s [] = record { n = 0; inside = omega arith; some = λ p q. absurd (omega arith); is = refl }
cut most s (b ∷ l) =
    by_test (leb (length s.text) most)
    (λ y. longer y (cut most (byte s b) l))
    (λ m. record {
      n = 0;
      inside = omega arith;
      some = λ p q. absurd (true≢false (sym (le-leb (length s.text) most q) ∙ m));
      is = rw m;
    })
  where
    longer : leb (length s.text) most ≡ true → Cut most (byte s b) l → Cut most s (b ∷ l)
    longer y c = record { n = suc c.n; inside = omega (arith, c.inside); some = λ p q. omega arith; is = rw y c.is }

-- ---- a call of feed

-- so many bytes of the piece were fed, and so many bytes put out
pub record Feeds (start : Progress) (piece out : List ℕ) (a : After FeedMemory Count) (taken put : ℕ) : Type 0 where
  pub inside : taken ≤ length piece
  pub some : 0 < length piece → 0 < taken
  pub world_is : a.left.world ≡ (fed start (take taken piece)).world
  pub held_is : a.left.held ≡ (fed start (take taken piece)).held
  pub size_is : a.left.size ≡ length a.left.held
  pub put_is : put ≡ length (fed start (take taken piece)).text
  pub out_is : a.left.out ≡ written (fed start (take taken piece)).text out

module _ (w : World) (h piece out : List ℕ) where
  abbrev start : Progress
  start = progress w h []

  -- what is left where a piece was fed in part
  abbrev left : FedPart → After FeedMemory Count
  left p = after (result (count (length piece - length p.rest) (length p.progress.text))) (feed_memory p.progress.world p.progress.held (length p.progress.held) (written p.progress.text out))

  left_feeds : (n taken put : ℕ) → n ≤ length piece → (0 < length piece → 0 < n) → (left (fed_part (fed start (take n piece)) (drop n piece))).answer ≡ result (count taken put)
      → Feeds start piece out (left (fed_part (fed start (take n piece)) (drop n piece))) taken put
  left_feeds n taken put inside some answer =
      let e = said_same _ _ answer in
      let t : length piece - length (drop n piece) ≡ taken = ap (λ (c : Count). c.taken) e in
      let q : length (fed start (take n piece)).text ≡ put = ap (λ (c : Count). c.put) e in
      let s : n ≡ taken = omega (arith, length-drop n piece) in
      subst (λ (i : ℕ). Feeds start piece out (left (fed_part (fed start (take n piece)) (drop n piece))) i put) s (record {
        inside = inside;
        some = some;
        world_is = refl;
        held_is = refl;
        size_is = refl;
        put_is = sym q;
        out_is = refl;
      })

-- an accepted call of feed, whatever it is lent
pub feed_feeds : (w : World) (line : List ℕ) (m : ℕ) (piece out : List ℕ) (taken put : ℕ) → (feed_call w line m piece out).answer ≡ result (count taken put)
    → Feeds (progress w (take m line) []) piece out (feed_call w line m piece out) taken put
unfolding feed_call
feed_feeds w line m piece out taken put =
    let s = progress w (take m line) [] in
    let Q : After FeedMemory Count → Type 0 = λ a. a.answer ≡ result (count taken put) → Feeds s piece out a taken put in
    let most = length out - room_for w.locations in
    let c = cut most s piece in
    by_cond Q (ltb 81 m || ltb (length line) m) _ _
    (λ y e. not_said 12 _ e)
    (λ n1. by_cond Q (ltb (length line) 81 || ltb (length out) (room_for w.locations)) _ _
    (λ y e. not_said 4 _ e)
    (λ n2. subst (λ (p : FedPart). Q (left w (take m line) piece out p)) (sym c.is)
    (left_feeds w (take m line) piece out c.n taken put c.inside (λ h. c.some h (omega arith)))))

-- what it put out is within the list, which keeps its length
text_within : (t out : List ℕ) → length (written t out) ≡ length out → length t ≤ length out
unfolding written
text_within t out e = omega (arith, length-append t (drop (length t) out))

pub feed_within : {start : Progress} {piece out : List ℕ} {a : After FeedMemory Count} {taken put : ℕ} → Feeds start piece out a taken put → length a.left.out ≡ length out → put ≤ length out
feed_within {start} {piece} {out} {a} {taken} {put} f e =
    omega (arith, f.put_is, text_within (fed start (take taken piece)).text out (sym (ap length f.out_is) ∙ e))

-- and stands in its first places
pub feed_text : {start : Progress} {piece out : List ℕ} {a : After FeedMemory Count} {taken put : ℕ} → Feeds start piece out a taken put → take put a.left.out ≡ (fed start (take taken piece)).text
feed_text {start} {piece} {out} {a} {taken} {put} f =
    ap (take put) f.out_is ∙ written_take put (fed start (take taken piece)).text out (sym f.put_is)

-- ---- a call of finish

-- the line that was held, if there was one, was answered
pub record Ends (start : Progress) (out : List ℕ) (a : After FeedMemory Count) (put : ℕ) : Type 0 where
  pub world_is : a.left.world ≡ (ended start).world
  pub held_is : a.left.held ≡ []
  pub put_is : put ≡ length (ended start).text
  pub out_is : a.left.out ≡ written (ended start).text out

pub finish_within : {start : Progress} {out : List ℕ} {a : After FeedMemory Count} {put : ℕ} → Ends start out a put → length a.left.out ≡ length out → put ≤ length out
finish_within {start} {out} {a} {put} f e =
    omega (arith, f.put_is, text_within (ended start).text out (sym (ap length f.out_is) ∙ e))

-- an accepted call holds no more than the line has
feed_holds : (w : World) (line : List ℕ) (m : ℕ) (piece out : List ℕ) (c : Count) → (feed_call w line m piece out).answer ≡ result c → m ≤ length line
unfolding feed_call
feed_holds w line m piece out c e =
    by_below (length line) m
    (λ h. not_said 12 c (rw (lt-ltb (length line) m h, or-true) at e))
    (λ h. h)

module _ (w : World) (line : List ℕ) (m : ℕ) (out : List ℕ) (taken put : ℕ) where
  ends_bare : m ≡ 0 → ◌≡◌ {A = Answer Count} (result (count 0 0)) (result (count taken put)) → Ends (progress w (take m line) []) out (after (result (count 0 0)) (feed_memory w [] 0 out)) put
  unfolding written
  ends_bare z answer =
      let s = progress w (take m line) [] in
      let h : take m line ≡ [] = ap (λ (i : ℕ). take i line) z in
      let e : ended s ≡ s = ended_none s (ap length h) in
      let q : 0 ≡ put = ap (λ (c : Count). c.put) (said_same _ _ answer) in
      record {
        world_is = ap (λ (x : Progress). x.world) (sym e);
        held_is = refl;
        put_is = sym q ∙ ap (λ (x : Progress). length x.text) (sym e);
        out_is = ap (λ (x : Progress). written x.text out) (sym e);
      }

  ends_held : (m ≡ 0 → ⊥) → (feed_call w line m (10 ∷ []) out).answer ≡ result (count taken put) → Ends (progress w (take m line) []) out (feed_call w line m (10 ∷ []) out) put
  ends_held z answer =
      let s = progress w (take m line) [] in
      let f = feed_feeds w line m (10 ∷ []) out taken put answer in
      let t : taken ≡ 1 = omega (arith, f.inside, f.some (omega arith)) in
      let n : length (take m line) ≡ m = length-take-le m line (feed_holds w line m (10 ∷ []) out _ answer) in
      let e : fed s (take taken (10 ∷ [])) ≡ ended s = ap (λ (i : ℕ). fed s (take i (10 ∷ []))) t ∙ sym (ended_held s (λ y. z (sym n ∙ y))) in
      let b : (fed s (take taken (10 ∷ []))).held ≡ [] = ap (λ (i : ℕ). (fed s (take i (10 ∷ []))).held) t ∙ ap (λ (x : Progress). x.held) (byte_line s 10 refl) in
      record {
        world_is = f.world_is ∙ ap (λ (x : Progress). x.world) e;
        held_is = f.held_is ∙ b;
        put_is = f.put_is ∙ ap (λ (x : Progress). length x.text) e;
        out_is = f.out_is ∙ ap (λ (x : Progress). written x.text out) e;
      }

  -- an accepted call of finish, whatever it is lent
  pub finish_ends : (end_call w line m out).answer ≡ result (count taken put) → Ends (progress w (take m line) []) out (end_call w line m out) put
  unfolding end_call
  finish_ends =
      by_cond (λ (a : After FeedMemory Count). a.answer ≡ result (count taken put) → Ends (progress w (take m line) []) out a put) (eqb m 0) _ _
      (λ y. ends_bare (eqb-true m 0 y))
      (λ n. ends_held (eqb-false m 0 n))

-- ---- no refusal

-- with lists long enough feed and finish are not refused
pub feed_not_refused : (w : World) (line : List ℕ) (m : ℕ) (piece out : List ℕ) → Fits m line w out → (c : ℕ) → (feed_call w line m piece out).answer ≡ refusal c → ⊥
unfolding feed_call
feed_not_refused w line m piece out f c =
    rw (le-ltb 81 m f.held, le-ltb (length line) m (omega (arith, f.held, f.line)), le-ltb (length line) 81 f.line, le-ltb (length out) (room_for w.locations) f.out)
    (λ e. not_said c _ (sym e))

pub finish_not_refused : (w : World) (line : List ℕ) (m : ℕ) (out : List ℕ) → Fits m line w out → (c : ℕ) → (end_call w line m out).answer ≡ refusal c → ⊥
unfolding end_call
finish_not_refused w line m out f c =
    by_cond (λ (a : After FeedMemory Count). a.answer ≡ refusal c → ⊥) (eqb m 0) _ _
    (λ y e. not_said c _ (sym e))
    (λ n. feed_not_refused w line m (10 ∷ []) out f c)
