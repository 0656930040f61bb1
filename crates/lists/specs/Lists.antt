-- Lists of numbers by a test: the words that the definitions of the crates above are written in.
-- Assumes nothing.
use Rattle.std.specs.Prelude.{◌≡◌, Bool, true, false, cond, ◌&&◌, not, List, [], ◌∷◌, ◌++◌, ℕ, zero, suc, ◌-◌, ◌<◌, max, min, length, drop, get_or, ltb, leb, eqb}
use Rattle.std.proofs.Math.Option
use Rattle.std.proofs.Math.Option.{Option, none, some}

-- x in front of xs, where the test passed
abbrev pub put : Bool → ℕ → List ℕ → List ℕ
put true x xs = x ∷ xs
put false x xs = xs

-- the entries that pass a test, in order
abbrev pub keep : (ℕ → Bool) → List ℕ → List ℕ
keep p [] = []
keep p (x ∷ xs) = put (p x) x (keep p xs)

-- the test: below n
unfoldable pub below : ℕ → ℕ → Bool
below n x = ltb x n

-- the test: n or more
unfoldable pub not_below : ℕ → ℕ → Bool
not_below n x = leb n x

-- how many entries are below n
abbrev pub count_below : ℕ → List ℕ → ℕ
count_below n xs = length (keep (below n) xs)

-- the test: is v
unfoldable pub same : ℕ → ℕ → Bool
same v x = eqb x v

-- one more, where the test passed
abbrev pub more : Bool → ℕ → ℕ
more true k = suc k
more false k = k

-- how often v stands in the list
abbrev pub occurrences : ℕ → List ℕ → ℕ
occurrences v [] = 0
occurrences v (x ∷ xs) = more (same v x) (occurrences v xs)

-- whether v stands in the list
unfoldable pub has : ℕ → List ℕ → Bool
has v xs = ltb 0 (occurrences v xs)

-- c numbers from a up
abbrev pub from : ℕ → ℕ → List ℕ
from a zero = []
from a (suc c) = a ∷ from (suc a) c

-- 0..n, as document 01 writes it: n itself is left out
abbrev pub zero_to : ℕ → List ℕ
zero_to n = from 0 n

-- n−1, n−2, .., 0
abbrev pub down : ℕ → List ℕ
down zero = []
down (suc n) = n ∷ down n

-- x put together with what is there
abbrev pub join : (ℕ → ℕ → ℕ) → ℕ → Option ℕ → ℕ
join op x none = x
join op x (some y) = op x y

-- all entries put together, none of an empty list
abbrev pub pick : (ℕ → ℕ → ℕ) → List ℕ → Option ℕ
pick op [] = none
pick op (x ∷ xs) = some (join op x (pick op xs))

abbrev pub largest : List ℕ → Option ℕ
largest xs = pick max xs

abbrev pub smallest : List ℕ → Option ℕ
smallest xs = pick min xs

-- whether every entry passes
unfoldable pub every : (ℕ → Bool) → List ℕ → Bool
every p [] = true
every p (x ∷ xs) = p x && every p xs

-- one less to find, where the test passed
abbrev pub left : Bool → ℕ → ℕ
left true k = k
left false k = suc k

-- the list up to and with its k-th entry that passes; all of it where it has fewer
abbrev pub up_to : (ℕ → Bool) → ℕ → List ℕ → List ℕ
up_to p k [] = []
up_to p zero (x ∷ xs) = []
up_to p (suc k) (x ∷ xs) = x ∷ up_to p (left (p x) k) xs

-- the list xs with its t-th entry that passes replaced by the t-th entry of ys, by 0 where ys has none
abbrev pub replace : (ℕ → Bool) → List ℕ → List ℕ → List ℕ
replace p [] ys = []
replace p (x ∷ xs) ys = cond (p x) (get_or ys 0 0) x ∷ replace p xs (cond (p x) (drop 1 ys) ys)

-- how many of the first u entries stand when last ones that fail are dropped while more than k stand
unfoldable pub standing : (ℕ → Bool) → ℕ → List ℕ → ℕ → ℕ
standing p k xs zero = zero
standing p k xs (suc u) = cond (ltb k (suc u)) (cond (p (get_or xs u 0)) (suc u) (standing p k xs u)) (suc u)

-- the last entry, 0 of an empty list
unfoldable pub last : List ℕ → ℕ
last xs = get_or xs (length xs - 1) 0

-- the entries other than v, in order
unfoldable pub other : ℕ → ℕ → Bool
other v x = not (same v x)

abbrev pub without : ℕ → List ℕ → List ℕ
without v xs = keep (other v) xs

-- xs written over the first places of a longer list
unfoldable pub written : List ℕ → List ℕ → List ℕ
written xs l = xs ++ drop (length xs) l

-- the first of the c numbers from n up that passes
abbrev pub first_from : (ℕ → Bool) → ℕ → ℕ → Option ℕ
first_from p n zero = none
first_from p n (suc c) =
    let later = first_from p (suc n) c in
    cond (p n) (some n) later

-- the first entry that passes, none where none does
abbrev pub find : (ℕ → Bool) → List ℕ → Option ℕ
find p [] = none
find p (x ∷ xs) =
    let later = find p xs in
    cond (p x) (some x) later

-- the first entry of xs that ys lacks, 0 where it lacks none
unfoldable pub lacked : List ℕ → List ℕ → ℕ
lacked xs ys = Option.get_or (find (λ x. not (has x ys)) xs) 0

-- strictly ascending, and below n
pub record Ascending (l : List ℕ) (n : ℕ) : Type 0 where
  pub rises : (i j : ℕ) → i < j → j < length l → get_or l i 0 < get_or l j 0
  pub below : (i : ℕ) → i < length l → get_or l i 0 < n

-- from the list l to the list l' the number v comes in, o goes out, and the others keep their order
pub record Exchanges (l l' : List ℕ) (v o : ℕ) : Type 0 where
  pub v_new : occurrences v l ≡ 0
  pub v_in : occurrences v l' ≡ 1
  pub o_was : occurrences o l ≡ 1
  pub o_out : occurrences o l' ≡ 0
  pub others : without v l' ≡ without o l
