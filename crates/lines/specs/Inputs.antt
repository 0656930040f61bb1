-- Document 01, **The line program**: an input fed from its first byte to its end, with no regard to room, and lists that have the room.
-- Assumes nothing.
use Rattle.std.specs.Prelude.{cond, List, [], ◌∷◌, ℕ, ◌≤◌, eqb, length}
use Rattle.lines.specs.Sessions.{World}
use Rattle.fields.specs.Cuts.{held_most}
use Rattle.lines.specs.Streams.{Progress, byte, room_for}

-- byte after byte
abbrev pub fed : Progress → List ℕ → Progress
fed s [] = s
fed s (b ∷ l) = fed (byte s b) l

-- the end of the input: "a line feed, which the last input line may lack"
unfoldable pub ended : Progress → Progress
ended s = cond (eqb (length s.held) 0) s (byte s 10)

-- Lists long enough for feed and finish, where m bytes of a line are held: the one that holds them, and the one for what is put out.
pub record Fits (m : ℕ) (bytes : List ℕ) (w : World) (texts : List ℕ) : Type 0 where
  pub held : m ≤ held_most
  pub line : held_most ≤ length bytes
  pub out : room_for w.locations ≤ length texts
