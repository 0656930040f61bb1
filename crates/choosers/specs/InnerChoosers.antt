-- What private functions of the choosers leave. No public promise cites it.
-- Assumes nothing.
use Rattle.std.specs.Prelude.{◌≡◌, ◌⊎◌, cond, List, ◌++◌, ℕ, suc, ◌^◌, ltb, ◌<◌, get_or, take, drop}
use Rattle.answers.specs.Answers.{Answer, refusal, result, After}
use Rattle.choosers.specs.declared.choose_k.ConsistentChooseKHasher.{ConsistentChooseKHasher}
use Rattle.choosers.specs.Choosers.{g, Moved, moved, grow}
use Rattle.choosers.specs.ChooserCalls.{samples_of, fitting, grown_by, ChooserState}

-- what the tests say that every call on a record begins with
unfoldable pub tests : ConsistentChooseKHasher → List ℕ → Answer (Unit {0})
tests c l = cond (fitting c l) (cond (ltb (2 ^ 62) c.n) (refusal 1) (result tt)) (refusal 12)

-- one sample more, where the tests are passed and not all n are there
unfoldable pub grown : ConsistentChooseKHasher → List ℕ → After ChooserState ℕ
grown c l =
    let m = grow c.state (samples_of c l) c.n in
    grown_by c l m m.index

-- grow of the first k entries of a list: one entry more is written, the rest stands
unfoldable pub grow_in : ℕ → ℕ → List ℕ → ℕ → Moved
grow_in s k l n =
    let m = grow s (take k l) n in
    moved (m.samples ++ drop (suc k) l) m.index

-- the first k entries are g(0, n), g(1, n), ..
abbrev pub Owns : ℕ → List ℕ → ℕ → ℕ → Type 0
Owns s l k n = (i : ℕ) → i < k → get_or l i 0 ≡ g s i n

-- each of them is that, or is m
abbrev pub OwnOr : ℕ → List ℕ → ℕ → ℕ → Type 0
OwnOr s l k m = (i : ℕ) → i < k → (get_or l i 0 ≡ m) ⊎ (get_or l i 0 ≡ g s i m)
