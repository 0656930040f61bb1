-- Document 01, **The line program**: bytes that come in pieces, cut into lines, each answered where its line feed comes.
-- Assumes nothing.
use Rattle.std.specs.Prelude.{◌≡◌, cond, ◌||◌, List, [], ◌∷◌, ◌++◌, ℕ, ◌+◌, ◌-◌, ◌*◌, eqb, ltb, leb, length, take, Result, Ok, Err}
use Rattle.answers.specs.Answers.{Answer, refusal, result, After, after, refused}
use Rattle.answers.specs.Refusals.{number}
use Rattle.answers.specs.declared.Refusal.{Refusal}
use Rattle.lists.specs.Lists.{written}
use Rattle.fields.specs.Cuts.{held_most}
use Rattle.lines.specs.Replies.{text_of}
use Rattle.lines.specs.Sessions.{site, World, world, respond}
use Rattle.lines.specs.declared.sessions.Session.{Session}
use Rattle.lines.specs.declared.sessions.Memory.{Memory}
use Rattle.lines.specs.declared.sessions.Fed.{Fed}

-- what the program has, the bytes of a line that has not ended yet, and what was put out
pub record Progress : Type 0 where
  pub world : World
  pub held : List ℕ
  pub text : List ℕ

abbrev pub progress : World → List ℕ → List ℕ → Progress
progress w h t = record { world = w; held = h; text = t }

-- a byte: a line feed ends the line, which is answered; any other is held
unfoldable pub byte : Progress → ℕ → Progress
byte s b =
    cond (eqb b 10)
    (progress (respond s.world s.held).left [] (s.text ++ text_of (respond s.world s.held).answer))
    (progress s.world (take held_most (s.held ++ (b ∷ []))) s.text)

-- the longest answer: 33 bytes for each place of a plan, or 32 for a line
abbrev pub room_for : List ℕ → ℕ
room_for ls = 33 * length ls + 32

-- where a piece was fed as far as there was room: what stands then, and what is left of the piece
pub record FedPart : Type 0 where
  pub progress : Progress
  pub rest : List ℕ

abbrev pub fed_part : Progress → List ℕ → FedPart
fed_part s l = record { progress = s; rest = l }

-- byte after byte, as long as no more than so many bytes are put out
abbrev pub fed_up_to : ℕ → Progress → List ℕ → FedPart
fed_up_to most s [] = fed_part s []
fed_up_to most s (b ∷ l) = cond (leb (length s.text) most) (fed_up_to most (byte s b) l) (fed_part s (b ∷ l))

-- what a call of feed says: how many bytes of the piece it took, and how many it put out
pub record Count : Type 0 where
  pub taken : ℕ
  pub put : ℕ

abbrev pub count : ℕ → ℕ → Count
count t p = record { taken = t; put = p }

abbrev pub answer_of_feeding : Result Fed Refusal → Answer Count
answer_of_feeding (Ok f) = result (count f.taken f.put)
answer_of_feeding (Err why) = refusal (number why)

-- what a call leaves: the world, what is held of a line and how many bytes that is, and the list of what is put out
pub record FeedMemory : Type 0 where
  pub world : World
  pub held : List ℕ
  pub size : ℕ
  pub out : List ℕ

abbrev pub feed_memory : World → List ℕ → ℕ → List ℕ → FeedMemory
feed_memory w h m o = record { world = w; held = h; size = m; out = o }

-- a session's world, with the lists that it is lent
abbrev pub world_of : Session → Memory → World
world_of s m = world (site s.current m.list.now m.table.now) m.locations.now m.terminals.now (length m.scratch.now)

-- what a call said and left: the session, its world, the line and the list of what is put out
abbrev pub after_call : Result Fed Refusal → Session → World → List ℕ → List ℕ → After FeedMemory Count
after_call r s w line out = after (answer_of_feeding r) (feed_memory w (take s.held line) s.held out)

-- A call of feed with a list `line`, of which the first m bytes are held. 12: more bytes are held than there can be. 4: `line` is
-- shorter than what may be held, or `out` than the longest answer. Otherwise the piece is fed as long as there is room for the
-- longest answer, and what is put out stands in the first places of `out`.
unfoldable pub feed_call : World → List ℕ → ℕ → List ℕ → List ℕ → After FeedMemory Count
feed_call w line m piece out =
    let room = room_for w.locations in
    let p = fed_up_to (length out - room) (progress w (take m line) []) piece in
    let s = p.progress in
    cond (ltb held_most m || ltb (length line) m) (refused 12 (feed_memory w (take m line) m out))
    (cond (ltb (length line) held_most || ltb (length out) room) (refused 4 (feed_memory w (take m line) m out))
    (after (result (count (length piece - length p.rest) (length s.text))) (feed_memory s.world s.held (length s.held) (written s.text out))))

-- At the end of the input a line that is held is fed its line feed; where none is held nothing is done.
unfoldable pub end_call : World → List ℕ → ℕ → List ℕ → After FeedMemory Count
end_call w line m out = cond (eqb m 0) (after (result (count 0 0)) (feed_memory w [] 0 out)) (feed_call w line m (10 ∷ []) out)

-- Past what is held `line` is free after a call that is not refused, and so is the scratch; a refusal leaves both. They keep their
-- lengths.
abbrev pub BuffersAfter : Result Fed Refusal → List ℕ → List ℕ → List ℕ → List ℕ → Type 0
BuffersAfter (Ok f) line line' scratch scratch' = (length line' ≡ length line) × (length scratch' ≡ length scratch)
BuffersAfter (Err why) line line' scratch scratch' = (line' ≡ line) × (scratch' ≡ scratch)

-- the same lists are lent, as long as they were
abbrev pub SameLists : Memory → Memory → Type 0
SameLists m m' =
    (m'.list.ghost_name ≡ m.list.ghost_name) × (m'.table.ghost_name ≡ m.table.ghost_name) × (m'.locations.ghost_name ≡ m.locations.ghost_name)
    × (m'.terminals.ghost_name ≡ m.terminals.ghost_name) × (m'.scratch.ghost_name ≡ m.scratch.ghost_name)
    × (length m'.list.now ≡ length m.list.now) × (length m'.table.now ≡ length m.table.now) × (length m'.locations.now ≡ length m.locations.now)
    × (length m'.terminals.now ≡ length m.terminals.now) × (length m'.scratch.now ≡ length m.scratch.now)
