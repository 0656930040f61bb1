-- Fields with tabs between them are the fields of the line that they make; numbers and keys that are printed have no tab.
-- Assumes nothing.
use mathlib.Core.Path.{◌≡◌, refl}
use mathlib.Core.List.{List, [], ◌∷◌, ◌++◌}
use Prim.Native.Nat.{ℕ, zero, suc, ◌+◌, ◌/◌, ◌%◌}
use native.Mathlib.Omega.{arith}
use borrow.Author.Tests.{lt-ltb, le-ltb, ne_eqb}
use Rattle.lists.proofs.Tests.{by_below}
use Rattle.fields.specs.Lines.{fields}
use Rattle.fields.specs.Printing.{spell, decimal_of, capital_digit, spell_capitals, key_text}

-- no byte is a tab
abbrev pub NoTab : List ℕ → Type 0
NoTab [] = Unit {0}
NoTab (b ∷ l) = (b ≡ 9 → ⊥) × NoTab l

pub field_then : (w l : List ℕ) → NoTab w → fields (w ++ 9 ∷ l) ≡ w ∷ fields l
field_then [] l h = refl
field_then (b ∷ w) l h = rw (ne_eqb b 9 h.0, field_then w l h.1)

pub field_last : (w : List ℕ) → NoTab w → fields w ≡ w ∷ []
field_last [] h = refl
field_last (b ∷ w) h = rw (ne_eqb b 9 h.0, field_last w h.1)

spell_bare : (f n : ℕ) (text : List ℕ) → NoTab text → NoTab (spell f n text)
spell_bare zero n text h = h
spell_bare (suc f) n text h =
    by_below n 10
    (λ l. rw (lt-ltb n 10 l) ((λ e. omega arith), h))
    (λ l. rw (le-ltb n 10 l) (spell_bare f (n / 10) ((48 + n % 10) ∷ text) ((λ e. omega arith), h)))

pub decimal_bare : (n : ℕ) → NoTab (decimal_of n)
unfolding decimal_of
decimal_bare n = spell_bare 10 n [] tt

digit_bare : (d : ℕ) → capital_digit d ≡ 9 → ⊥
unfolding capital_digit
digit_bare d =
    by_below d 10
    (λ l. rw (lt-ltb d 10 l) (λ e. omega arith))
    (λ l. rw (le-ltb d 10 l) (λ e. omega arith))

capitals_bare : (c n : ℕ) (text : List ℕ) → NoTab text → NoTab (spell_capitals c n text)
capitals_bare zero n text h = h
capitals_bare (suc c) n text h = capitals_bare c (n / 16) (capital_digit (n % 16) ∷ text) (digit_bare (n % 16), h)

pub key_bare : (key : ℕ) → NoTab (key_text key)
unfolding key_text
key_bare key = capitals_bare 16 key [] tt
