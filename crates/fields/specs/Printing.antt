-- Document 01, **The line program**, and document 02, §5 and §8: numbers and keys, as they are printed.
-- Assumes nothing.
use Rattle.std.specs.Prelude.{cond, List, [], ◌∷◌, ◌++◌, ℕ, zero, suc, ◌+◌, ◌/◌, ◌%◌, ltb}

-- ---- numbers

-- the digits of n in front of a text, at most f of them: "without leading zeros", and 0 is one digit
abbrev pub spell : ℕ → ℕ → List ℕ → List ℕ
spell zero n text = text
spell (suc f) n text = cond (ltb n 10) ((48 + n) ∷ text) (spell f (n / 10) ((48 + n % 10) ∷ text))

-- a number below 2^32 in decimal, which has at most ten digits
unfoldable pub decimal_of : ℕ → List ℕ
decimal_of n = spell 10 n []

-- a tab and a number
unfoldable pub tabbed : ℕ → List ℕ
tabbed n = (9 ∷ []) ++ decimal_of n

-- "Lines end in a line feed"
abbrev pub line_end : List ℕ
line_end = 10 ∷ []

-- ---- keys

-- a digit of base 16 in capitals: 48 to 57 are 0 to 9, 65 to 70 are A to F
unfoldable pub capital_digit : ℕ → ℕ
capital_digit d = cond (ltb d 10) (48 + d) (55 + d)

-- the last c digits of a number in base 16 in front of a text
abbrev pub spell_capitals : ℕ → ℕ → List ℕ → List ℕ
spell_capitals zero n text = text
spell_capitals (suc c) n text = spell_capitals c (n / 16) (capital_digit (n % 16) ∷ text)

-- "key (16 digits, capitals)"
unfoldable pub key_text : ℕ → List ℕ
key_text key = spell_capitals 16 key []
