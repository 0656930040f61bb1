-- What the chooser's calls say and leave, on any record and any list.
-- Assumes nothing.
use Rattle.std.specs.Prelude.{◌≡◌, Bool, true, cond, ◌||◌, ◌&&◌, List, [], ◌∷◌, ℕ, zero, suc, ◌+◌, ◌^◌, ltb, leb, eqb, length, get_or, take}
use Rattle.std.proofs.Math.Option.{Option, none, some}
use Rattle.answers.specs.Answers.{Answer, refusal, result, After, refused, after}
use Rattle.answers.specs.Making.{by_sizes}
use Rattle.lists.specs.Lists.{last, lacked, written}
use Rattle.choosers.specs.declared.choose_k.ConsistentChooseKHasher.{ConsistentChooseKHasher}
use Rattle.choosers.specs.Choosers.{S, Moved, grow, shrink}

abbrev pub chooser_of : ℕ → ℕ → ℕ → ConsistentChooseKHasher
chooser_of s n k = record { state = s; n = n; k = k }

-- a chooser and its list
pub record ChooserState : Type 0 where
  pub chooser : ConsistentChooseKHasher
  pub list : List ℕ

abbrev pub chooser_state : ConsistentChooseKHasher → List ℕ → ChooserState
chooser_state c l = record { chooser = c; list = l }

-- "Samples lie ascending in a lent list of u64."
abbrev pub samples_of : ConsistentChooseKHasher → List ℕ → List ℕ
samples_of c l = take c.k l

-- the first k entries ascend strictly below n: the last of them is below n, and those before it ascend strictly below that
unfoldable pub ascends : List ℕ → ℕ → ℕ → Bool
ascends l zero n = true
ascends l (suc k) n = ltb (get_or l k 0) n && ascends l k (get_or l k 0)

-- Refusal 12 is for any of these: ".. a chooser's k past its list", "samples not strictly ascending below n"
unfoldable pub fitting : ConsistentChooseKHasher → List ℕ → Bool
fitting c l = leb c.k (length l) && ascends l c.k c.n

-- ---- new and new_with_k

-- 1: "n above .. 2^62 (hashes, choosers)"
unfoldable pub new_call : ℕ → ℕ → Answer ConsistentChooseKHasher
new_call s n = cond (ltb (2 ^ 62) n) (refusal 1) (result (chooser_of s n 0))

-- What it leaves is the list; there is a record only where it answers one. 1 and "3 k above n", then "4 a lent list shorter than what must
-- be written".
unfoldable pub new_with_k_call : ℕ → ℕ → ℕ → List ℕ → After (List ℕ) ConsistentChooseKHasher
new_with_k_call s n k l =
    by_sizes (2 ^ 62) 0 k n (λ w. refused w l)
    (cond (ltb (length l) k) (refused 4 l)
    (after (result (chooser_of s n k)) (written (S s k n) l)))

-- ---- grow_k, next and shrink_n

-- the record fits its list and has no n above the limit: 12, then 1
unfoldable pub tested : {A : Type 0} → ConsistentChooseKHasher → List ℕ → After ChooserState A → After ChooserState A
tested c l a = cond (fitting c l) (cond (ltb (2 ^ 62) c.n) (refused 1 (chooser_state c l)) a) (refused 12 (chooser_state c l))

-- one sample more; 4 where the list has no place for it
unfoldable pub grown_by : {A : Type 0} → ConsistentChooseKHasher → List ℕ → Moved → A → After ChooserState A
grown_by c l m a =
    cond (ltb (length l) (c.k + 1)) (refused 4 (chooser_state c l))
    (after (result a) (chooser_state (chooser_of c.state c.n (c.k + 1)) (written m.samples l)))

-- "6 grow with k = n"
unfoldable pub grow_call : ConsistentChooseKHasher → List ℕ → After ChooserState ℕ
grow_call c l =
    let m = grow c.state (samples_of c l) c.n in
    tested c l (cond (eqb c.k c.n) (refused 6 (chooser_state c l)) (grown_by c l m m.index))

-- "(the iterator says none)"; the new sample stands at the index that grow answers
unfoldable pub next_call : ConsistentChooseKHasher → List ℕ → After ChooserState (Option ℕ)
next_call c l =
    let m = grow c.state (samples_of c l) c.n in
    tested c l (cond (eqb c.k c.n) (after (result none) (chooser_state c l)) (grown_by c l m (some (get_or m.samples m.index 0))))

-- a, a+1, a+2, ..
unfoldable pub counts_from : ℕ → List ℕ → Bool
counts_from a [] = true
counts_from a (x ∷ xs) = eqb x a && counts_from (suc a) xs

-- "5 shrink with k 0, n at most k, or samples 0..k−1"
unfoldable pub shrink_call : ConsistentChooseKHasher → List ℕ → After ChooserState ℕ
shrink_call c l =
    let xs = samples_of c l in
    let m = shrink c.state xs in
    tested c l (cond (eqb c.k 0 || leb c.n c.k || counts_from 0 xs) (refused 5 (chooser_state c l))
    (after (result m.index) (chooser_state (chooser_of c.state (last xs) c.k) (written m.samples l))))

-- ---- where the samples are S(k, n)

abbrev pub Chooses : ConsistentChooseKHasher → List ℕ → Type 0
Chooses c l = samples_of c l ≡ S c.state c.k c.n

-- "From S(k, n) these give S(k, last sample) and S(k+1, n)": they are S(k, n) of the record after it; and the index that is
-- answered is the place of the number that came in, which is the one that the samples before lacked
pub record Consistent (c : ConsistentChooseKHasher) (l : List ℕ) (a : After ChooserState ℕ) : Type 0 where
  pub chooses : Chooses c l → Chooses a.left.chooser a.left.list
  pub index : Chooses c l → (i : ℕ) → a.answer ≡ result i → get_or a.left.list i 0 ≡ lacked (samples_of a.left.chooser a.left.list) (samples_of c l)

-- the same of `next`: the number answered is the one that came in
pub record ConsistentNext (c : ConsistentChooseKHasher) (l : List ℕ) (a : After ChooserState (Option ℕ)) : Type 0 where
  pub chooses : Chooses c l → Chooses a.left.chooser a.left.list
  pub number : Chooses c l → (x : ℕ) → a.answer ≡ result (some x) → x ≡ lacked (samples_of a.left.chooser a.left.list) (samples_of c l)
