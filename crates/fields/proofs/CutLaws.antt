-- One cut of a piece: what its code does, and what it gives.
-- Assumes nothing.
use mathlib.Core.Path.{◌≡◌, refl, sym, ap, ◌∙◌, subst}
use mathlib.Core.List.{List, [], ◌∷◌, ◌++◌, append_assoc, append-nil}
use Prim.Native.Nat.{ℕ, zero, suc, ◌+◌, ◌-◌, ◌≤◌, ◌<◌, min}
use native.Mathlib.Omega.{arith}
use lib.Dec.{eqb, leb}
use lib.ListN.{length, take, drop, length-append, length-take}
use lib.Seq.{take-append-add, take-take, take_all}
use borrow.Author.Tests.{le-leb, lt-leb, lt-ltb, le-ltb, ne_eqb, eqb-true, leb-true, leb-false}
use borrow.Rule.Slice.PartMut.{put_mid}
use Rattle.std.specs.Prelude.{Option, Some, None}
use Rattle.std.specs.Option.{unwrap_or}
use Rattle.std.specs.List.{position_or_len, position}
use Rattle.std.proofs.lemmas.List.{take_min, take-append-le}
use Rattle.answers.specs.Answers.{Answer, refusal, result, After, after}
use Rattle.lists.specs.Lists.{written}
use Rattle.lists.proofs.Tests.{by_test, by_below, by_cond}
use Rattle.lists.proofs.Writing.{written_take}
use Rattle.fields.specs.Texts.{Put}
use Rattle.fields.specs.Cuts.{end_of, kept, cut_call}
use Rattle.fields.specs.declared.cuts.Cutting.{Cutting}
use Rattle.fields.specs.declared.cuts.Cutting.TheVariants.{Open, Whole, Joined}
use Rattle.fields.proofs.PutLaws.{put_is, put_places}

-- ---- where the first line feed is

-- as std's `position` finds it
end_is : (l : List ℕ) → position_or_len (λ b. eqb b 10) l ≡ end_of l
end_is [] = refl
end_is (b ∷ l) = by_test (eqb b 10) (λ y. rw y) (λ n. rw (n, end_is l) (omega arith))

pub end_some : (l : List ℕ) (e : ℕ) → position (λ b. eqb b 10) l ≡ Some e → (e ≡ end_of l) × (e < length l)
end_some l e h =
    by_below (position_or_len (λ b. eqb b 10) l) (length l)
    (λ p. let q : ◌≡◌ {A = Option ℕ} (Some (position_or_len (λ b. eqb b 10) l)) (Some e) = rw (lt-ltb _ _ p) at h in
    let same : position_or_len (λ b. eqb b 10) l ≡ e = cc in
    (sym same ∙ end_is l, omega arith))
    (λ p. let q : ◌≡◌ {A = Option ℕ} None (Some e) = rw (le-ltb _ _ p) at h in cc)

pub end_none : (l : List ℕ) → position (λ b. eqb b 10) l ≡ None → length l ≤ end_of l
end_none l h =
    by_below (position_or_len (λ b. eqb b 10) l) (length l)
    (λ p. let q : ◌≡◌ {A = Option ℕ} (Some (position_or_len (λ b. eqb b 10) l)) None = rw (lt-ltb _ _ p) at h in cc)
    (λ p. omega (arith, end_is l))

pub end_within : (l : List ℕ) → end_of l ≤ length l
end_within [] = omega arith
end_within (b ∷ l) = by_test (eqb b 10) (λ y. rw y (omega arith)) (λ n. rw n (omega (arith, end_within l)))

-- or the length
pub end_or : (l : List ℕ) → unwrap_or (position (λ b. eqb b 10) l) (length l) ≡ end_of l
end_or l = by (position (λ b. eqb b 10) l) refl
  where
    by : (o : Option ℕ) → position (λ b. eqb b 10) l ≡ o → unwrap_or o (length l) ≡ end_of l
    by (Some e) is = (end_some l e is).0
    by None is = omega (arith, end_none l is, end_within l)

-- ---- bytes held behind those that are

-- what is cut off first would be cut off anyway
pub take_cut : (n : ℕ) (a b : List ℕ) → take n (take n a ++ b) ≡ take n (a ++ b)
take_cut zero a b = refl
take_cut (suc n) [] b = refl
take_cut (suc n) (x ∷ a) b = ap (λ (l : List ℕ). x ∷ l) (take_cut n a b)

take_least : (n e : ℕ) (l : List ℕ) → take (min n e) l ≡ take n (take e l)
take_least n e l =
    by_below n e
    (λ h. ap (λ (i : ℕ). take i l) (least n e (omega arith)) ∙ sym (take-take n e l (omega arith)))
    (λ h. ap (λ (i : ℕ). take i l) (least' n e h) ∙ sym (take_all n (take e l) (omega (arith, length-take e l))))
  where
    least : (n e : ℕ) → n ≤ e → min n e ≡ n
    least n e h = omega arith

    least' : (n e : ℕ) → e ≤ n → min n e ≡ e
    least' n e h = omega arith

-- the bytes that the code keeps, and those that it puts behind them
module _ (line bytes : List ℕ) (m most h count : ℕ) (room : most ≡ min (length line) 81) (front : h ≡ min m most) (behind : count ≡ min (length bytes) (most - h)) where
  kept_is : kept line m bytes ≡ take h line ++ take count bytes
  unfolding kept
  kept_is =
      let cut : take count bytes ≡ take (most - h) bytes = ap (λ (n : ℕ). take n bytes) (omega arith) ∙ take_min (most - h) bytes in
      rw (← room)
      (by_below most m
      (λ l. let e : h ≡ most = omega arith in
      let none : most - h ≡ 0 = omega arith in
      take-append-le most (take m line) bytes (omega (arith, length-take m line))
      ∙ take-take most m line (omega arith)
      ∙ ap (λ (n : ℕ). take n line) (omega arith)
      ∙ sym (append-nil (take h line))
      ∙ ap (λ (l : List ℕ). take h line ++ l) (sym (cut ∙ ap (λ (n : ℕ). take n bytes) none)))
      (λ l. let e : m ≡ h = omega arith in
      let n : most ≡ length (take h line) + (most - h) = omega (arith, length-take h line) in
      ap (λ (i : ℕ). take most (take i line ++ bytes)) e
      ∙ ap (λ (i : ℕ). take i (take h line ++ bytes)) n
      ∙ take-append-add (take h line) bytes (most - h)
      ∙ ap (λ (l : List ℕ). take h line ++ l) (sym cut)))

  length_parts : length (take h line ++ take count bytes) ≡ h + count
  length_parts = omega (arith, length-append (take h line) (take count bytes), length-take h line, length-take count bytes)

  pub kept_size : h + count ≡ length (kept line m bytes)
  kept_size = sym (ap length kept_is ∙ length_parts)

  pub kept_written : (k : ℕ) (part : List ℕ) → k ≡ count → part ≡ take count bytes → put_mid h k line part ≡ written (kept line m bytes) line
  unfolding written
  kept_written k part e p =
      let l : length (take count bytes) ≡ count = omega (arith, length-take count bytes) in
      let put : Put line h (take count bytes) (put_mid h k line part) (h + count) = put_places line (take count bytes) part h k (h + count) (omega (arith, l)) (omega (arith, l)) (omega (arith, l)) p in
      put_is put
      ∙ sym (append_assoc (take h line) (take count bytes) (drop (h + count) line))
      ∙ ap (λ (n : ℕ). (take h line ++ take count bytes) ++ drop n line) (sym length_parts)
      ∙ ap (λ (x : List ℕ). x ++ drop (length x) line) (sym kept_is)

-- ---- a cut, as the code comes to it

module _ (piece line : List ℕ) (m : ℕ) where
  -- no line feed is there,
  pub cut_open : (n : ℕ) (line' : List ℕ) → length piece ≤ end_of piece → n ≡ length (kept line m piece) → line' ≡ written (kept line m piece) line
      → after (result (Open n)) line' ≡ cut_call piece m line
  unfolding cut_call
  cut_open n line' h e w = rw (le-leb (length piece) (end_of piece) h, take_all (end_of piece) piece h, e, w)

  module _ (size e : ℕ) (is : e ≡ end_of piece) (inside : e < length piece) where
    -- or nothing is held of the line that it ends,
    pub cut_whole : m ≡ 0 → size ≡ min e (min (length line) 81) → after (result (Whole size (e + 1))) line ≡ cut_call piece m line
    unfolding cut_call kept
    cut_whole z s =
        let h : end_of piece < length piece = omega arith in
        let n : length (take (min (length line) 81) (take (end_of piece) piece)) ≡ size = omega (arith, length-take (min (length line) 81) (take (end_of piece) piece), length-take (end_of piece) piece) in
        let t : e + 1 ≡ suc (end_of piece) = omega arith in
        rw (lt-leb (length piece) (end_of piece) h, z, n, t)

    -- or some bytes of it are
    pub cut_joined : (line' : List ℕ) → (m ≡ 0 → ⊥) → size ≡ length (kept line m (take e piece)) → line' ≡ written (kept line m (take e piece)) line
        → after (result (Joined size (e + 1))) line' ≡ cut_call piece m line
    unfolding cut_call
    cut_joined line' z s w =
        let h : end_of piece < length piece = omega arith in
        let t : e + 1 ≡ suc (end_of piece) = omega arith in
        rw (lt-leb (length piece) (end_of piece) h, ne_eqb m 0 z, s, w, t, is)

-- ---- what a cut gives, with a list that has room for all that is held

-- the line that the piece ended, of which these are the first bytes
pub record Ended (piece held bytes : List ℕ) (taken : ℕ) : Type 0 where
  pub inside : end_of piece < length piece
  pub taken_is : taken ≡ suc (end_of piece)
  pub bytes_are : bytes ≡ take 81 (held ++ take (end_of piece) piece)

-- no line ended, and these bytes are held
pub record Held (piece held bytes : List ℕ) (n : ℕ) : Type 0 where
  pub ended : length piece ≤ end_of piece
  pub few : n ≤ 81
  pub bytes_are : bytes ≡ take 81 (held ++ piece)

abbrev pub Gives : List ℕ → List ℕ → ℕ → Cutting → List ℕ → Type 0
Gives piece line m (Open n) line' = Held piece (take m line) (take n line') n
Gives piece line m (Whole size taken) line' = (m ≡ 0) × (size ≤ length piece) × Ended piece (take m line) (take size piece) taken
Gives piece line m (Joined size taken) line' = (size ≤ length line') × Ended piece (take m line) (take size line') taken

-- of a call's answer, which is no refusal
abbrev GivesBy : List ℕ → List ℕ → ℕ → Answer Cutting → List ℕ → Type 0
GivesBy piece line m (refusal w) line' = ⊥
GivesBy piece line m (result c) line' = Gives piece line m c line'

module _ (piece line : List ℕ) (m : ℕ) (room : 81 ≤ length line) where
  kept_first : (bytes : List ℕ) → kept line m bytes ≡ take 81 (take m line ++ bytes)
  unfolding kept
  kept_first bytes =
      let e : min (length line) 81 ≡ 81 = omega arith in
      ap (λ (n : ℕ). take n (take m line ++ bytes)) e

  few_kept : (bytes : List ℕ) → length (kept line m bytes) ≤ 81
  few_kept bytes = omega (arith, ap length (kept_first bytes), length-take 81 (take m line ++ bytes))

  in_list : (bytes : List ℕ) → length bytes ≤ length (written bytes line)
  unfolding written
  in_list bytes = omega (arith, length-append bytes (drop (length bytes) line))

  gives_whole : m ≡ 0 → end_of piece < length piece → Gives piece line m (Whole (length (kept line m (take (end_of piece) piece))) (suc (end_of piece))) line
  gives_whole z h =
      let e = end_of piece in
      let n : length (kept line m (take e piece)) ≡ min 81 e =
      ap length (kept_first (take e piece)) ∙ ap (λ (i : ℕ). length (take 81 (take i line ++ take e piece))) z ∙ omega (arith, length-take 81 (take e piece), length-take e piece) in (
        z,
        omega arith,
        record {
          inside = h;
          taken_is = refl;
          bytes_are =
              ap (λ (i : ℕ). take i piece) n
              ∙ take_least 81 e piece
              ∙ ap (λ (i : ℕ). take 81 (take i line ++ take e piece)) (sym z);
        },
      )

  gives_joined : end_of piece < length piece → Gives piece line m (Joined (length (kept line m (take (end_of piece) piece))) (suc (end_of piece))) (written (kept line m (take (end_of piece) piece)) line)
  gives_joined h =
      let bytes = kept line m (take (end_of piece) piece) in
      (in_list bytes, record { inside = h; taken_is = refl; bytes_are = written_take (length bytes) bytes line refl ∙ kept_first (take (end_of piece) piece) })

  gives_open : length piece ≤ end_of piece → Gives piece line m (Open (length (kept line m (take (end_of piece) piece)))) (written (kept line m (take (end_of piece) piece)) line)
  gives_open h =
      let bytes = kept line m (take (end_of piece) piece) in
      record {
        ended = h;
        few = few_kept (take (end_of piece) piece);
        bytes_are = written_take (length bytes) bytes line refl ∙ kept_first (take (end_of piece) piece) ∙ ap (λ (l : List ℕ). take 81 (take m line ++ l)) (take_all (end_of piece) piece h);
      }

  call_gives : GivesBy piece line m (cut_call piece m line).answer (cut_call piece m line).left
  unfolding cut_call
  call_gives =
      let P : After (List ℕ) Cutting → Type 0 = λ a. GivesBy piece line m a.answer a.left in
      by_cond P (leb (length piece) (end_of piece)) _ _
      (λ y. gives_open (leb-true (length piece) (end_of piece) y))
      (λ n. by_cond P (eqb m 0) _ _
      (λ y. gives_whole (eqb-true m 0 y) (leb-false (length piece) (end_of piece) n))
      (λ z. gives_joined (leb-false (length piece) (end_of piece) n)))

  -- what is read off the promise of a call
  pub cut_gives : (c : Cutting) (line' : List ℕ) → after (result c) line' ≡ cut_call piece m line → Gives piece line m c line'
  cut_gives c line' is = subst (λ (a : After (List ℕ) Cutting). GivesBy piece line m a.answer a.left) (sym is) call_gives
