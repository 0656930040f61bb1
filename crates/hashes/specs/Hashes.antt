-- Document 01, "A plan call, followed downwards", **Hashes**, sentence by sentence.
-- Assumes nothing.
use Rattle.std.specs.Prelude.{Bool, true, cond, ◌&&◌, List, [], ◌∷◌, ◌++◌, ℕ, zero, suc, ◌+◌, ◌*◌, ◌/◌, ◌%◌, ◌^◌, ltb, eqb, take}
use Rattle.std.proofs.Math.Option.{Option}
use Rattle.std.specs.Int.Bits.{bit_xor}
use Rattle.lists.specs.Lists.{put, keep, below, has, largest}
use Rattle.words.specs.Words.{mix}

-- "feeding a u64 or usize v makes it mix(state xor v)"
unfoldable pub feed : ℕ → ℕ → ℕ
feed state v = mix (bit_xor state v)

-- "each draw, the first too, is the new d = mix(d xor 54387634019)"
unfoldable pub draw : ℕ → ℕ
draw d = feed d 54387634019

-- the next c draws after d
unfoldable pub draws : ℕ → ℕ → List ℕ
draws zero d = []
draws (suc c) d = draw d ∷ draws c (draw d)

-- "The 256th draw may still give a hash, and no 257th is made"
abbrev pub draw_limit : ℕ
draw_limit = 256

-- "A later one is d mod 2b; below b it ends the bucket."
unfoldable pub later_numbers : ℕ → List ℕ → List ℕ
later_numbers b [] = []
later_numbers b (d ∷ ds) =
    let x = d % (2 * b) in
    cond (ltb x b) [] (x ∷ later_numbers b ds)

-- "The first draw is the number b + (d mod b)."
unfoldable pub numbers : ℕ → List ℕ → List ℕ
numbers b [] = []
numbers b (d ∷ ds) = (b + d % b) ∷ later_numbers b ds

abbrev pub less_than_all : ℕ → List ℕ → Bool
less_than_all x [] = true
less_than_all x (y ∷ ys) = ltb x y && less_than_all x ys

-- "A number is a hash if it is less than all before it in its bucket": those of a list, where `before` came before it
abbrev pub prefix_minima : List ℕ → List ℕ → List ℕ
prefix_minima before [] = []
prefix_minima before (x ∷ xs) = put (less_than_all x before) x (prefix_minima (x ∷ before) xs)

-- the hashes of bucket b by its draws
unfoldable pub bucket_hashes : ℕ → List ℕ → List ℕ
bucket_hashes b ds = prefix_minima [] (numbers b (take draw_limit ds))

-- "d starts as mix(s xor b), which is no draw": the draws of bucket b of state s, as many as count
unfoldable pub bucket_draws : ℕ → ℕ → List ℕ
bucket_draws s b = draws draw_limit (feed s b)

-- "set in s": the power 2^i
unfoldable pub is_set : ℕ → ℕ → Bool
is_set s i = eqb (s / 2 ^ i % 2) 1

-- the hashes that state s has of bucket 2^i
unfoldable pub bucket : ℕ → ℕ → List ℕ
bucket s i = cond (is_set s i) (bucket_hashes (2 ^ i) (bucket_draws s (2 ^ i))) []

-- of the k buckets 2^0, 2^1, .., 2^(k−1)
unfoldable pub buckets : ℕ → ℕ → List ℕ
buckets s zero = []
buckets s (suc k) = buckets s k ++ bucket s k

-- "A state s has hash 0 always, and for each power of two b, up to 2^62, set in s, those of bucket b."
unfoldable pub hashes : ℕ → List ℕ
hashes s = 0 ∷ buckets s 63

unfoldable pub is_hash : ℕ → ℕ → Bool
is_hash s x = has x (hashes s)

-- "Prev of n is the largest hash below n."
unfoldable pub prev : ℕ → ℕ → Option ℕ
prev s n = largest (keep (below n) (hashes s))
