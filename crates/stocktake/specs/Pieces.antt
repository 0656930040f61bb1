-- What the program's own functions promise: where the session stands, and what the writer has, after what a read gave them.
-- Assumes nothing.
use Rattle.std.specs.Prelude.{◌≡◌, List, [], ◌∷◌, ℕ, length, take, Option, None}
use Rattle.std.specs.Io.KnownBytes.{Appends}
use Rattle.lines.specs.Sessions.{World, world, site}
use Rattle.lines.specs.Streams.{Progress, progress, world_of}
use Rattle.lines.specs.Inputs.{fed, ended}
use Rattle.lines.specs.declared.sessions.Session.{Session}
use Rattle.lines.specs.declared.sessions.Memory.{Memory}

-- where a session stands, with what it is lent; all that it put out is written, so that there is no text
abbrev pub stands : Session → List ℕ → Memory → Progress
stands s line m = progress (world_of s m) (take s.held line) []

-- no round yet, and nothing held: where the program begins, in lists that it is lent
abbrev pub begun : Memory → World
begun m = world (site None m.list.now m.table.now) m.locations.now m.terminals.now (length m.scratch.now)

-- "Lists of 8,192 numbers and 512 slots are its own arrays": so are the plan's two lists, and there is a place of scratch for each slot
pub record Own (m : Memory) : Type 0 where
  pub list : length m.list.now ≡ 8192
  pub table : length m.table.now ≡ 512
  pub locations : length m.locations.now ≡ 8192
  pub terminals : length m.terminals.now ≡ 8192
  pub scratch : length m.scratch.now ≡ 512

-- what a read gave: bytes of the input, or none at its end
abbrev pub taken_in : Progress → List ℕ → Progress
taken_in s [] = ended s
taken_in s (b ∷ l) = fed s (b ∷ l)

-- what was put out is written, so that there is no text any more
abbrev pub emptied : Progress → Progress
emptied s = progress s.world s.held []

-- From where the program stood before it took in bytes to where it stands then. All that this put out is behind the bytes that the
-- writer had, where it is known which those are.
pub record Written (before : Progress) (bytes : List ℕ) (after : Progress) (had has : Option (List ℕ)) : Type 0 where
  pub stands : after ≡ emptied (taken_in before bytes)
  pub text : Appends had has (taken_in before bytes).text
