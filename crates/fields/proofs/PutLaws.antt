-- Texts put into a list, one after another, as far as there is room; and a loop that writes a number's digits.
-- Assumes nothing.
use mathlib.Core.Path.{◌≡◌, refl, sym, ap, ◌∙◌, subst}
use mathlib.Core.List.{List, [], ◌∷◌, ◌++◌, append_assoc, append-nil}
use Prim.Native.Nat.{ℕ, zero, suc, ◌+◌, ◌-◌, ◌/◌, ◌%◌, ◌^◌, ◌≤◌, ◌<◌}
use native.Mathlib.Numerals.{add-one}
use native.Mathlib.Omega.{arith}
use lib.ListN.{length, take, drop, set, length-append, take-append-drop, drop_of_length-le}
use lib.Seq.{append_snoc, set_split, take_at, take_all, drop_at, drop-drop, length-take-le}
use Rattle.std.proofs.lemmas.List.{drop-set}
use borrow.Rule.Slice.PartMut.{put_mid}
use Rattle.lists.specs.Lists.{written}
use Rattle.lists.proofs.Tests.{by_below}
use Rattle.fields.specs.Printing.{decimal_of}
use Rattle.fields.specs.Texts.{Put}
use Rattle.fields.proofs.DecimalLaws.{decimal_one, decimal_snoc, decimal_pos}

-- ---- one text after another

-- in other words: the list then is what stood before the text, the text, and what stands behind it
pub put_is : {a b t : List ℕ} {at r : ℕ} → Put a at t b r → b ≡ take at a ++ (t ++ drop r a)
unfolding written
put_is {a} {b} {t} {at} {r} p =
    let e : drop (length t) (drop at a) ≡ drop r a = drop-drop (length t) at a ∙ ap (λ (k : ℕ). drop k a) (sym p.next_is) in
    p.bytes ∙ ap (λ (l : List ℕ). take at a ++ (t ++ l)) e

put_of : {a b t : List ℕ} {at r : ℕ} → at ≤ length a → r ≡ at + length t → b ≡ take at a ++ (t ++ drop r a) → Put a at t b r
unfolding written
put_of {a} {b} {t} {at} {r} h n e =
    let d : drop r a ≡ drop (length t) (drop at a) = ap (λ (k : ℕ). drop k a) n ∙ sym (drop-drop (length t) at a) in
    record { within = h; next_is = n; bytes = e ∙ ap (λ (l : List ℕ). take at a ++ (t ++ l)) d }

-- lists that are alike from a place on are alike from any later one on
drop_later : (a b : List ℕ) (n k : ℕ) → drop n a ≡ drop n b → drop (n + k) a ≡ drop (n + k) b
drop_later a b n k e = sym (drop-drop k n a) ∙ ap (drop k) e ∙ drop-drop k n b

-- nothing put
pub put_none : (l : List ℕ) (at : ℕ) → at ≤ length l → Put l at [] l at
put_none l at h = put_of h (omega arith) (sym (take-append-drop at l))

-- a byte put
pub put_byte : (l : List ℕ) (at b : ℕ) → at < length l → Put l at (b ∷ []) (set l at b) (at + 1)
put_byte l at b h = put_of (omega arith) refl (rw add-one (set_split l at b h))

-- one text put after another
pub put_then : {a b c s t : List ℕ} {at r q : ℕ} → Put a at s b r → Put b r t c q → Put a at (s ++ t) c q
put_then {a} {b} {c} {s} {t} {at} {r} {q} x y =
    let front = take at a in
    let long : length (front ++ s) ≡ r = length-append front s ∙ omega (arith, length-take-le at a x.within, x.next_is) in
    let is : b ≡ (front ++ s) ++ drop r a = put_is x ∙ sym (append_assoc front s (drop r a)) in
    let first : take r b ≡ front ++ s = ap (take r) is ∙ take_at (front ++ s) (drop r a) r long in
    let behind : drop r b ≡ drop r a = ap (drop r) is ∙ drop_at (front ++ s) (drop r a) r long in
    let rest : drop q b ≡ drop q a = rw y.next_is (drop_later b a r (length t) behind) in
    put_of
    x.within
    (omega (arith, x.next_is, y.next_is, length-append s t))
    (put_is y
    ∙ (λ i. first i ++ (t ++ rest i))
    ∙ append_assoc front s (t ++ drop q a)
    ∙ ap (λ (l : List ℕ). front ++ l) (sym (append_assoc s t (drop q a))))

-- ---- as far as there is room

-- a text is cut where the first of its two parts leaves no room for all of the second
take_both : (n : ℕ) (s t : List ℕ) → take n (s ++ t) ≡ take n s ++ take (n - length (take n s)) t
take_both zero s t = refl
take_both (suc n) [] t =
    let e : suc n - 0 ≡ suc n = omega arith in
    rw e
take_both (suc n) (x ∷ s) t =
    let e : suc n - length (x ∷ take n s) ≡ n - length (take n s) = omega arith in
    rw e (ap (λ (l : List ℕ). x ∷ l) (take_both n s t))

module _ {a b text : List ℕ} {at r : ℕ} (h : at + length text ≤ length a) where
  -- where there is room for all, all is put
  pub first_whole : Put a at text b r → Put a at (take (length a - at) text) b r
  first_whole p = rw (take_all (length a - at) text (omega arith)) p

  pub whole_first : Put a at (take (length a - at) text) b r → Put a at text b r
  whole_first p = subst (λ (s : List ℕ). Put a at s b r) (take_all (length a - at) text (omega arith)) p

-- one text after another
pub first_then : {a b c : List ℕ} (s t : List ℕ) {at r q : ℕ} → length b ≡ length a → Put a at (take (length a - at) s) b r → Put b r (take (length b - r) t) c q
    → Put a at (take (length a - at) (s ++ t)) c q
first_then {a} {b} {c} s t {at} {r} {q} k x y =
    let n = length a - at in
    let e : length b - r ≡ n - length (take n s) = omega (arith, x.next_is, x.within) in
    rw take_both (put_then x (subst (λ (i : ℕ). Put b r (take i t) c q) e y))

-- nothing put
pub first_none : (l : List ℕ) (at : ℕ) → at ≤ length l → Put l at (take (length l - at) []) l at
first_none l at h = rw (take_of_nil (length l - at)) (put_none l at h)
  where
    take_of_nil : (n : ℕ) → take {A = ℕ} n [] ≡ []
    take_of_nil zero = refl
    take_of_nil (suc n) = refl

-- where a byte has no room
pub first_full : (l text : List ℕ) (at : ℕ) → at ≤ length l → length l ≤ at → Put l at (take (length l - at) text) l at
first_full l text at h k =
    let e : length l - at ≡ 0 = omega arith in
    rw e (put_none l at h)

-- a text put behind one that was written from the list's start on
pub put_written : (xs old text : List ℕ) {after : List ℕ} {r : ℕ} → Put (written xs old) (length xs) text after r → after ≡ written (xs ++ text) old
put_written xs old text p = (put_then first p).bytes
  where
    first : Put old 0 xs (written xs old) (length xs)
    first = record { within = omega arith; next_is = omega arith; bytes = refl }

-- a text in the places of a list, which were lent for it
pub put_places : (l text part : List ℕ) (at k next : ℕ) → at + length text ≤ length l → k ≡ length text → next ≡ at + length text → part ≡ text
    → Put l at text (put_mid at k l part) next
unfolding written
put_places l text part at k next h e n p = rw (e, n, p) (record { within = omega arith; next_is = refl; bytes = refl })

-- ---- a loop that writes the digits of n, from the last to the first

-- From the place i on stand the last ones; those of left, if any, are not written yet.
pub record Spelling (n : ℕ) (list : List ℕ) (i left : ℕ) : Type 0 where
  pub front : List ℕ
  pub digits : decimal_of n ≡ front ++ drop i list
  pub place : i ≡ length front
  pub more : 0 < i → front ≡ decimal_of left

pub spelling_start : (n : ℕ) (list : List ℕ) → length list ≡ length (decimal_of n) → Spelling n list (length list) n
spelling_start n list h = record {
  front = decimal_of n;
  digits = rw (drop_of_length-le list {i = length list} (omega arith)) (sym (append-nil (decimal_of n)));
  place = h;
  more = λ _. refl;
}

module _ (n : ℕ) (list : List ℕ) (i left : ℕ) (s : Spelling n list (suc i) left) (inside : i < length list) where
  behind : (b : ℕ) → drop i (set list i b) ≡ b ∷ drop (suc i) list
  behind b = drop-set list i b inside ∙ ap (λ (k : ℕ). b ∷ drop k list) (add-one i)

  ones : left < 10 → 48 + left ≡ 48 + left % 10
  ones l = omega arith

  spelling_turn : left < 10 ^ 10 → Spelling n (set list i (48 + left % 10)) i (left / 10)
  spelling_turn h =
      let d : s.front ≡ decimal_of left = s.more (omega arith) in
      let p = s.place in
      let last = 48 + left % 10 in
      by_below left 10
      (λ l. let one : decimal_of left ≡ (48 + left) ∷ [] = decimal_one left l in
      record {
        front = [];
        digits = s.digits ∙ ap (λ (f : List ℕ). f ++ drop (suc i) list) (d ∙ one) ∙ ap (λ (b : ℕ). b ∷ drop (suc i) list) (ones l) ∙ sym (behind last);
        place = omega (arith, ap length (d ∙ one));
        more = λ z. absurd (omega (arith, z, ap length (d ∙ one)));
      })
      (λ l. let cut : decimal_of left ≡ decimal_of (left / 10) ++ (last ∷ []) = decimal_snoc left l h in
      record {
        front = decimal_of (left / 10);
        digits =
            s.digits
            ∙ ap (λ (f : List ℕ). f ++ drop (suc i) list) (d ∙ cut)
            ∙ append_snoc (decimal_of (left / 10)) last (drop (suc i) list)
            ∙ ap (λ (r : List ℕ). decimal_of (left / 10) ++ r) (sym (behind last));
        place = omega (arith, ap length (d ∙ cut), length-append (decimal_of (left / 10)) (last ∷ []));
        more = λ _. refl;
      })

pub spelling_more : (n : ℕ) (list : List ℕ) (i left : ℕ) → Spelling n list i left → 0 < i → i ≤ length list → left < 10 ^ 10 → Spelling n (set list (i - 1) (48 + left % 10)) (i - 1) (left / 10)
spelling_more n list i left s p q h =
    let e : i ≡ suc (i - 1) = omega arith in
    spelling_turn n list (i - 1) left (subst (λ (k : ℕ). Spelling n list k left) e s) (omega arith) h

pub spelling_end : (n : ℕ) (list : List ℕ) (left : ℕ) → Spelling n list 0 left → list ≡ decimal_of n
spelling_end n list left s = sym (s.digits ∙ ap (λ (f : List ℕ). f ++ list) (nothing s.front s.place))
  where
    nothing : (f : List ℕ) → 0 ≡ length f → f ≡ []
    nothing [] e = refl
    nothing (x ∷ f) e = absurd (omega arith)

-- the first digit is what is left
spelling_left : (n : ℕ) (list : List ℕ) (left : ℕ) → Spelling n list 1 left → left < 10 ^ 10 → left < 10
spelling_left n list left s h =
    by_below left 10
    (λ l. l)
    (λ l. absurd (omega (arith, s.place, ap length (s.more (omega arith)), ap length (decimal_snoc left l h), length-append (decimal_of (left / 10)) ((48 + left % 10) ∷ []), decimal_pos (left / 10))))

pub spelling_first : (n : ℕ) (list : List ℕ) (i left : ℕ) → Spelling n list i left → i ≡ 1 → left < 10 ^ 10 → left < 10
spelling_first n list i left s e h = spelling_left n list left (subst (λ (k : ℕ). Spelling n list k left) e s) h

pub spelling_list : (n : ℕ) (list : List ℕ) (i left : ℕ) → Spelling n list i left → i ≡ 1 → 0 < length list → left < 10 ^ 10 → set list 0 (48 + left) ≡ decimal_of n
spelling_list n list i left s e p h =
    let small : left < 10 = spelling_first n list i left s e h in
    let one : Spelling n list 1 left = subst (λ (k : ℕ). Spelling n list k left) e s in
    let digit : left % 10 ≡ left = omega arith in
    ap (λ (d : ℕ). set list 0 (48 + d)) (sym digit) ∙ spelling_end n (set list 0 (48 + left % 10)) (left / 10) (spelling_more n list 1 left one (omega arith) (omega arith) h)
