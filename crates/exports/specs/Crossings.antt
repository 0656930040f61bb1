-- How a call on a record crosses to C and Rust: its answer as one number (Coded.antt), the record as words that the caller keeps, and what it
-- leaves of all that is lent. Stated once, for every record.
-- Assumes nothing.
use Rattle.std.specs.Prelude.{cond, List, ℕ, ◌+◌, ◌^◌, ltb, length}
use Rattle.answers.specs.Answers.{Answer, refusal, result, After}
use Rattle.lists.specs.Lists.{written}
use Rattle.exports.specs.Coded.{coded_by}

-- the answer, and what is left of all that the call may write
pub record Crossed (M : Type 0) : Type 0 where
  pub answer : ℕ
  pub left : M

abbrev pub crossed : {M : Type 0} → ℕ → M → Crossed M
crossed a m = record { answer = a; left = m }

-- a record's words, and the list beside it
pub record WordsList : Type 0 where
  pub words : List ℕ
  pub list : List ℕ

abbrev pub words_list : List ℕ → List ℕ → WordsList
words_list ws l = record { words = ws; list = l }

-- How a record R stands in words: how many there are, its words, and the record that words are.
pub record Layout (R : Type 0) : Type 0 where
  pub count : ℕ
  pub words : R → List ℕ
  pub reads : List ℕ → R

-- by whether the words are fewer than a record has
abbrev pub if_few : {R X : Type 0} → Layout R → List ℕ → X → X → X
if_few y ws few a = cond (ltb (length ws) y.count) few a

-- With fewer, a call is refused with this number and leaves what it was lent.
abbrev pub enough : {R M : Type 0} → Layout R → ℕ → List ℕ → M → Crossed M → Crossed M
enough y w ws lent a = if_few y ws (crossed (2 ^ 63 + w) lent) a

-- the words after a call: a record in their first places where it has one; a refusal leaves them
abbrev pub words_by : {A : Type 0} → (A → List ℕ) → List ℕ → Answer A → List ℕ
words_by f ws (result x) = written (f x) ws
words_by f ws (refusal c) = ws

-- ---- a call that makes a record

-- Too few words are a lent list too short: `short` says which refusal that is. The call a leaves n; `lay` puts the words and that together.
abbrev pub made : {R N M : Type 0} → Layout R → ℕ → (List ℕ → N → M) → List ℕ → N → After N R → Crossed M
made y short lay ws n a =
    enough y short ws (lay ws n)
    (crossed (coded_by (λ r. 0) a.answer) (lay (words_by y.words ws a.answer) a.left))

-- ---- a call on a record

-- S is the record with what is lent beside it; M the same with the record's words.
pub record Lending (R S M : Type 0) : Type 0 where
  pub layout : Layout R
  pub own : S → R
  pub lay : List ℕ → S → M

-- A call on the record in the words, which with the rest is s: refused 4 before all else where they are too few, since there is no record
-- that could be tested. `value` is the number of a result.
abbrev pub called : {R S M A : Type 0} → Lending R S M → (A → ℕ) → List ℕ → S → (S → After S A) → Crossed M
called d value ws s call =
    let a = call s in
    enough d.layout 4 ws (d.lay ws s)
    (crossed (coded_by value a.answer) (d.lay (words_by (λ x. d.layout.words (d.own a.left)) ws a.answer) a.left))

-- a call that only reads the record, and leaves what `a` does
abbrev pub read_by : {R M A : Type 0} → Layout R → (A → ℕ) → List ℕ → M → After M A → Crossed M
read_by y value ws m a = enough y 4 ws m (crossed (coded_by value a.answer) a.left)

-- whether a record fits: b, which is 1 or 0, or refusal 4
abbrev pub fits_by : {R : Type 0} → Layout R → List ℕ → ℕ → ℕ
fits_by y ws b = if_few y ws (2 ^ 63 + 4) b
