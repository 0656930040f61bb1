-- What a call puts behind the text that stands in the first places of a list.
-- Assumes nothing.
use Rattle.std.specs.Prelude.{◌≡◌, List, ◌++◌, ℕ, ◌+◌, ◌-◌, ◌≤◌, length, take, drop}
use Rattle.lists.specs.Lists.{written}
use Rattle.fields.specs.declared.texts.Text.{Text}

-- the text over the places from at on; next is the place after it
pub record Put (before : List ℕ) (at : ℕ) (text after : List ℕ) (next : ℕ) : Type 0 where
  pub within : at ≤ length before
  pub next_is : next ≡ at + length text
  pub bytes : after ≡ take at before ++ written text (drop at before)

-- so many bytes more
abbrev pub HasRoom : Text → ℕ → Type 0
HasRoom t n = t.len + n ≤ length t.out.now

-- texts in the same list, which keeps its length
abbrev pub SameList : Text → Text → Type 0
SameList t t' = (t'.out.ghost_name ≡ t.out.ghost_name) × (length t'.out.now ≡ length t.out.now)

-- a text that has grown by another
abbrev pub Puts : Text → List ℕ → Text → Type 0
Puts t text t' = Put t.out.now t.len text t'.out.now t'.len

-- a text that has grown by another as far as there is room: by its first bytes, where there is none for all
abbrev pub PutsFirst : Text → List ℕ → Text → Type 0
PutsFirst t text t' = Put t.out.now t.len (take (length t.out.now - t.len) text) t'.out.now t'.len
