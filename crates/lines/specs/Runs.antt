-- A run of the program: feed for one piece after the other, from no round and nothing held, and finish at the end. Each call gets
-- what the one before left.
-- Assumes nothing.
use Rattle.std.specs.Prelude.{◌≡◌, List, [], ◌∷◌, ◌++◌, ℕ, take}
use Rattle.answers.specs.Answers.{result}
use Rattle.lines.specs.Sessions.{World}
use Rattle.lines.specs.Streams.{count, feed_call, end_call}

-- From a world and what is held of a line: the parts of the pieces that the calls take, and all that they put out. A call is lent
-- the list with the held bytes, and any list for what it puts out; it is not refused.
pub data Runs : World → List ℕ → List (List ℕ) → List ℕ → Type 0 where
  finishes : (w : World) (line : List ℕ) (m : ℕ) (out : List ℕ) (taken put : ℕ) → (end_call w line m out).answer ≡ result (count taken put)
      → Runs w (take m line) [] (take put (end_call w line m out).left.out)
  feeds : (w : World) (line : List ℕ) (m : ℕ) (piece out : List ℕ) (taken put : ℕ) → (feed_call w line m piece out).answer ≡ result (count taken put)
      → (parts : List (List ℕ)) (text : List ℕ) → Runs (feed_call w line m piece out).left.world (feed_call w line m piece out).left.held parts text
      → Runs w (take m line) (take taken piece ∷ parts) (take put (feed_call w line m piece out).left.out ++ text)
