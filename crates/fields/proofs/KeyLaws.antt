-- A key that is printed is read back as the same key.
-- Assumes nothing.
use mathlib.Core.Path.{◌≡◌, refl, ap, ◌∙◌}
use mathlib.Core.List.{List, [], ◌∷◌}
use mathlib.Core.Option.{some}
use Prim.Native.Nat.{ℕ, zero, suc, ◌+◌, ◌*◌, ◌/◌, ◌%◌, ◌^◌, ◌<◌}
use native.Mathlib.Omega.{arith}
use borrow.Author.Tests.{lt-ltb, le-ltb}
use lib.ListN.{length}
use Rattle.lists.proofs.Tests.{by_below}
use Rattle.fields.specs.Numbers.{digit_of, value_of, key_of}
use Rattle.fields.specs.Printing.{capital_digit, spell_capitals, key_text}
use Rattle.fields.proofs.NumberLaws.{inside, under, over}

-- a digit that is printed is read as itself
digit_again : (d : ℕ) → d < 16 → digit_of (capital_digit d) ≡ d
unfolding digit_of capital_digit
digit_again d h =
    by_below d 10
    (λ l. rw (lt-ltb d 10 l, inside 48 57 (48 + d) (omega arith) (omega arith)) (omega arith))
    (λ g. rw (le-ltb d 10 g, over 48 57 (55 + d) (omega arith), under 97 102 (55 + d) (omega arith), inside 65 70 (55 + d) (omega arith) (omega arith)) (omega arith))

pub length_spell : (c n : ℕ) (text : List ℕ) → length (spell_capitals c n text) ≡ c + length text
length_spell zero n text = omega arith
length_spell (suc c) n text = length_spell c (n / 16) (capital_digit (n % 16) ∷ text) ∙ omega arith

shift : (sum p q r : ℕ) → (sum * p + q) * 16 + r ≡ sum * (p * 16) + (q * 16 + r)
shift sum p q r = omega arith

-- digits in front of a text write their number before the rest is read
spell_again : (c sum n : ℕ) (text : List ℕ) → n < 16 ^ c → value_of 16 sum (spell_capitals c n text) ≡ value_of 16 (sum * 16 ^ c + n) text
spell_again zero sum n text h = let e : sum * 16 ^ 0 + n ≡ sum = omega arith in rw e refl
spell_again (suc c) sum n text h =
    let d : n % 16 < 16 = omega arith in
    let p : 16 ^ suc c ≡ 16 ^ c * 16 = omega arith in
    let e : (sum * 16 ^ c + n / 16) * 16 + n % 16 ≡ sum * 16 ^ suc c + n = rw p (shift sum (16 ^ c) (n / 16) (n % 16) ∙ ap (λ (x : ℕ). sum * (16 ^ c * 16) + x) (omega arith)) in
    spell_again c sum (n / 16) (capital_digit (n % 16) ∷ text) (omega arith)
    ∙ rw (digit_again (n % 16) d, lt-ltb (n % 16) 16 d, e) refl

pub key_again : (key : ℕ) → key < 2 ^ 64 → key_of (key_text key) ≡ some key
unfolding key_of key_text
key_again key h = spell_again 16 0 key [] (omega arith) ∙ ap some (omega arith)

pub length_key : (key : ℕ) → length (key_text key) ≡ 16
unfolding key_text
length_key key = length_spell 16 key []
