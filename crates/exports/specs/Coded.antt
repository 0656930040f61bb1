-- How answers cross to C and Rust, as one number, and what the calls that sum up many answers work out.
-- Assumes nothing.
use Rattle.std.specs.Prelude.{Bool, true, false, cond, ◌&&◌, List, [], ◌∷◌, ℕ, zero, suc, ◌+◌, ◌%◌, ◌^◌, leb}
use Rattle.std.proofs.Math.Option.{Option, get_or}
use Rattle.std.specs.Int.Bits.{bit_xor}
use Rattle.answers.specs.Answers.{Answer, refusal, result}
use Rattle.layers.specs.Layer.{size, layer}
use Rattle.layers.specs.Inverses.{input_of}
use Rattle.hashes.specs.Hashes.{feed}
use Rattle.hashes.specs.Calls.{limited}
use Rattle.hashes.specs.Walks.{hashes_below, hashes_from}

-- ---- the one coding: the number of a result, refusal c as 2^63 + c. Every number of a result is below 2^63, but that none is 2^63; refusals begin
-- at 2^63 + 1.

abbrev pub coded_by : {A : Type 0} → (A → ℕ) → Answer A → ℕ
coded_by value (result x) = value x
coded_by value (refusal c) = 2 ^ 63 + c

-- a number as it is
abbrev pub coded_number : Answer ℕ → ℕ
coded_number t = coded_by (λ x. x) t

-- none as 2^63
abbrev pub found_number : Option ℕ → ℕ
found_number o = get_or o (2 ^ 63)

abbrev pub coded_hash : Answer (Option ℕ) → ℕ
coded_hash t = coded_by found_number t

-- 0 for a call with nothing to answer but that it was done
abbrev pub coded_done : {A : Type 0} → Answer A → ℕ
coded_done t = coded_by (λ x. 0) t

-- 1 or 0
abbrev pub truth : Bool → ℕ
truth true = 1
truth false = 0

abbrev pub coded_truth : Answer Bool → ℕ
coded_truth t = coded_by truth t

-- ---- a layer

-- f 0 xor f 1 xor .. xor f (n - 1)
unfoldable pub xors : (ℕ → ℕ) → ℕ → ℕ
xors f zero = 0
xors f (suc n) = bit_xor (xors f n) (f n)

-- The outputs of a layer at 0..n, xored. 12: "a layer above 14, or a layer's input not below its size".
unfoldable pub layer_xors : ℕ → ℕ → ℕ → Answer ℕ
layer_xors key j n = cond (leb j 14 && leb n (size j)) (result (xors (layer j key) n)) (refusal 12)

-- The inputs of a layer whose outputs are 0..n, xored. 12: "a layer above 14"; 02, §1: "if that isn't below the size".
unfoldable pub input_xors : ℕ → ℕ → ℕ → Answer ℕ
input_xors key j n = cond (leb j 14 && leb n (size j)) (result (xors (input_of j key) n)) (refusal 12)

-- ---- hashes

-- the stand-in of document 01 fed with all of a list, one after the other
abbrev pub fed_all : ℕ → List ℕ → ℕ
fed_all state [] = state
fed_all state (x ∷ xs) = fed_all (feed state x) xs

-- a list as one number below 2^63
unfoldable pub digest : List ℕ → ℕ
digest xs = fed_all 0 xs % 2 ^ 63

-- the whole falling walk from n, and the whole rising walk
unfoldable pub falling_digest : ℕ → ℕ → Answer ℕ
falling_digest s n = limited n (digest (hashes_below s n))

unfoldable pub rising_digest : ℕ → ℕ → Answer ℕ
rising_digest s n = limited n (digest (hashes_from s n))
