-- Document 01, **The line program**: numbers and keys, as the fields of a line write them.
-- Assumes nothing.
use Rattle.std.specs.Prelude.{Bool, cond, ◌&&◌, List, [], ◌∷◌, ℕ, ◌+◌, ◌-◌, ◌*◌, ◌^◌, eqb, ltb, leb, length}
use Rattle.std.proofs.Math.Option.{Option, none, some}

-- from a to e, both among them
unfoldable pub within : ℕ → ℕ → ℕ → Bool
within a e b = leb a b && leb b e

-- The digit that a byte is: 48 to 57 are 0 to 9, 97 to 102 are a to f, 65 to 70 are A to F. 16, which no base here has, where it
-- is no digit.
unfoldable pub digit_of : ℕ → ℕ
digit_of b =
    cond (within 48 57 b) (b - 48)
    (cond (within 97 102 b) (b - 87)
    (cond (within 65 70 b) (b - 55) 16))

-- the number that digits of a base write, after those that wrote sum; none where a byte is no such digit
abbrev pub value_of : ℕ → ℕ → List ℕ → Option ℕ
value_of base sum [] = some sum
value_of base sum (b ∷ l) =
    let rest = value_of base (sum * base + digit_of b) l in
    cond (ltb (digit_of b) base) rest none

-- a number "below 2^32", or none
abbrev pub below32 : Option ℕ → Option ℕ
below32 none = none
below32 (some v) = cond (ltb v (2 ^ 32)) (some v) none

-- "slots, k and n have 1 to 10 digits, below 2^32"
unfoldable pub number_of : List ℕ → Option ℕ
number_of f = cond (within 1 10 (length f)) (below32 (value_of 10 0 f)) none

-- "key (16 hexadecimal digits, either case)"
unfoldable pub key_of : List ℕ → Option ℕ
key_of f = cond (eqb (length f) 16) (value_of 16 0 f) none
