-- The digits of a number: how many there are, and which is the last.
-- Assumes nothing.
use mathlib.Core.Path.{◌≡◌, refl, sym, ap, ◌∙◌}
use mathlib.Core.List.{List, [], ◌∷◌, ◌++◌}
use Prim.Native.Nat.{ℕ, zero, suc, ◌+◌, ◌*◌, ◌/◌, ◌%◌, ◌^◌, ◌≤◌, ◌<◌, max}
use native.Mathlib.Nat.{one-le-pow, pow-suc}
use native.Mathlib.Omega.{arith}
use borrow.Author.Tests.{lt-ltb, le-ltb}
use lib.ListN.{length, length-append}
use lib.Seq.{append_snoc}
use Rattle.lists.proofs.Tests.{by_below}
use Rattle.fields.specs.Printing.{spell, decimal_of, tabbed}

-- ---- digits in front of a text

-- the text behind them is left alone
spell_append : (f n : ℕ) (t : List ℕ) → spell f n t ≡ spell f n [] ++ t
spell_append zero n t = refl
spell_append (suc f) n t =
    let last = 48 + n % 10 in
    let front = spell_append f (n / 10) (last ∷ []) in
    let all = spell_append f (n / 10) (last ∷ t) in
    by_below n 10
    (λ l. rw (lt-ltb n 10 l))
    (λ l. rw (le-ltb n 10 l) (all ∙ sym (ap (λ (r : List ℕ). r ++ t) front ∙ append_snoc (spell f (n / 10) []) last t)))

-- a number that has no more digits than were allowed needs no more
spell_more : (f n : ℕ) (t : List ℕ) → n < 10 ^ suc f → spell (suc (suc f)) n t ≡ spell (suc f) n t
spell_more zero n t h = let l : n < 10 = omega arith in rw (lt-ltb n 10 l)
spell_more (suc f) n t h =
    let e : 10 ^ suc (suc f) ≡ 10 ^ suc f * 10 = pow-suc 10 (suc f) in
    let d : n / 10 < 10 ^ suc f = omega arith in
    by_below n 10
    (λ l. rw (lt-ltb n 10 l))
    (λ l. rw (le-ltb n 10 l) (spell_more f (n / 10) ((48 + n % 10) ∷ t) d))

spell_snoc : (f n : ℕ) → 10 ≤ n → n < 10 ^ suc (suc f) → spell (suc (suc f)) n [] ≡ spell (suc (suc f)) (n / 10) [] ++ ((48 + n % 10) ∷ [])
spell_snoc f n g h =
    let e : 10 ^ suc (suc f) ≡ 10 ^ suc f * 10 = pow-suc 10 (suc f) in
    let d : n / 10 < 10 ^ suc f = omega arith in
    let last = (48 + n % 10) ∷ [] in
    rw (le-ltb n 10 g) (spell_append (suc f) (n / 10) last ∙ ap (λ (r : List ℕ). r ++ last) (sym (spell_more f (n / 10) [] d)))

-- at most f digits are put in front
length_spell : (f n : ℕ) (t : List ℕ) → length (spell f n t) ≤ f + length t
length_spell zero n t = omega arith
length_spell (suc f) n t =
    by_below n 10
    (λ l. rw (lt-ltb n 10 l) (omega arith))
    (λ l. rw (le-ltb n 10 l) (omega (arith, length_spell f (n / 10) ((48 + n % 10) ∷ t))))

-- at least one is
length_spell_pos : (f n : ℕ) (t : List ℕ) → length t < length (spell (suc f) n t)
length_spell_pos zero n t = by_below n 10 (λ l. rw (lt-ltb n 10 l) (omega arith)) (λ l. rw (le-ltb n 10 l) (omega arith))
length_spell_pos (suc f) n t =
    by_below n 10
    (λ l. rw (lt-ltb n 10 l) (omega arith))
    (λ l. rw (le-ltb n 10 l) (omega (arith, length_spell_pos f (n / 10) ((48 + n % 10) ∷ t))))

length_spell_is : (f d n : ℕ) (t : List ℕ) → d < f → 10 ^ d ≤ n → n < 10 ^ suc d → length (spell f n t) ≡ suc d + length t
length_spell_is zero d n t b g h = absurd (omega arith)
length_spell_is (suc f) zero n t b g h = let l : n < 10 = omega arith in rw (lt-ltb n 10 l) (omega arith)
length_spell_is (suc f) (suc d) n t b g h =
    let e : 10 ^ suc (suc d) ≡ 10 ^ suc d * 10 = pow-suc 10 (suc d) in
    let e' : 10 ^ suc d ≡ 10 ^ d * 10 = pow-suc 10 d in
    let one : 1 ≤ 10 ^ d = one-le-pow d 10 (omega arith) in
    let l : 10 ≤ n = omega arith in
    let g' : 10 ^ d ≤ n / 10 = omega arith in
    let h' : n / 10 < 10 ^ suc d = omega arith in
    rw (le-ltb n 10 l) (omega (arith, length_spell_is f d (n / 10) ((48 + n % 10) ∷ t) (omega arith) g' h'))

-- ---- a number below 10^10 in decimal

-- one digit,
pub decimal_one : (n : ℕ) → n < 10 → decimal_of n ≡ (48 + n) ∷ []
unfolding decimal_of
decimal_one n h = rw (lt-ltb n 10 h)

-- or the digits of its tenth and a last one
pub decimal_snoc : (n : ℕ) → 10 ≤ n → n < 10 ^ 10 → decimal_of n ≡ decimal_of (n / 10) ++ ((48 + n % 10) ∷ [])
unfolding decimal_of
decimal_snoc n g h = spell_snoc 8 n g h

-- from 10^d on, and below 10^(d+1), it has d + 1 digits
pub length_decimal_is : (d n : ℕ) → d < 10 → 10 ^ d ≤ n → n < 10 ^ suc d → length (decimal_of n) ≡ suc d
unfolding decimal_of
length_decimal_is d n b g h = omega (arith, length_spell_is 10 d n [] b g h)

-- as its logarithm tells, with 1 in place of 0
pub length_decimal_log : (d n m : ℕ) → m ≡ max n 1 → 10 ^ d ≤ m → m < 10 * 10 ^ d → d < 10 → d + 1 ≡ length (decimal_of n)
length_decimal_log d n m e g h b =
    let long : length (decimal_of m) ≡ suc d = length_decimal_is d m b g (rw pow-suc (omega arith)) in
    by_below n 1
    (λ l. let one : m ≡ 1 = omega arith in
    let a : length (decimal_of m) ≡ 1 = ap length (decimal_one m (omega arith)) in
    let z : length (decimal_of n) ≡ 1 = ap length (decimal_one n (omega arith)) in
    omega arith)
    (λ l. let same : m ≡ n = omega arith in
    omega (arith, ap (λ (x : ℕ). length (decimal_of x)) same))

pub length_decimal : (n : ℕ) → length (decimal_of n) ≤ 10
unfolding decimal_of
length_decimal n = omega (arith, length_spell 10 n [])

pub decimal_pos : (n : ℕ) → 0 < length (decimal_of n)
unfolding decimal_of
decimal_pos n = length_spell_pos 9 n []

pub length_tabbed : (n : ℕ) → length (tabbed n) ≤ 11
unfolding tabbed
length_tabbed n = omega (arith, length-append (9 ∷ []) (decimal_of n), length_decimal n)
