-- What private functions promise of a session. No public promise cites this file.
-- Assumes nothing.
use Rattle.std.specs.Prelude.{◌≡◌, List, ℕ, ◌≤◌, ◌<◌, length, take, drop}
use Rattle.lists.specs.Lists.{written}
use Rattle.lines.specs.Sessions.{World}
use Rattle.fields.specs.Cuts.{held_most}
use Rattle.lines.specs.Streams.{Progress, progress, fed_part, fed_up_to}
use Rattle.fields.specs.Texts.{Put}

-- Some bytes are taken, and a text is put into the list: as far as they go it is all that is fed.
pub record Stepped (bytes : List ℕ) (w : World) (line out : List ℕ) (held at : ℕ) (w' : World) (line' out' : List ℕ) (held' taken put : ℕ) : Type 0 where
  pub few : held' ≤ held_most
  pub some : 0 < taken
  pub inside : taken ≤ length bytes
  pub text : List ℕ
  pub puts : Put out at text out' put
  pub is : (most : ℕ) → at ≤ most
      → fed_up_to most (progress w (take held line) (take at out)) bytes ≡ fed_up_to most (progress w' (take held' line') (take put out')) (drop taken bytes)

-- So many bytes of a piece are taken, and what is put out stands in the first places of the list.
pub record Took (most : ℕ) (start : Progress) (piece before : List ℕ) (w : World) (line out : List ℕ) (held taken put : ℕ) : Type 0 where
  pub few : held ≤ held_most
  pub inside : taken ≤ length piece
  pub fits : put ≤ length out
  pub same : out ≡ written (take put out) before
  pub is : fed_up_to most start piece ≡ fed_part (progress w (take held line) (take put out)) (drop taken piece)
