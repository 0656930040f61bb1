-- Document 01, **The line program**: what is answered to a line, and what it leaves to the next.
-- Assumes nothing.
use Rattle.std.specs.Prelude.{List, [], ◌∷◌, ◌++◌, ℕ, Option, Some, None}
use Rattle.std.proofs.Math.Option as maybe
use Rattle.answers.specs.Answers.{Answer, refusal, result, map_answer, After, after, refused}
use Rattle.rounds.specs.declared.round.Round.{Round}
use Rattle.rounds.specs.Rounds.{State, state, open_call, admit_call, join_call, withdraw_call}
use Rattle.rounds.specs.Plans.{plan_call, shown_plan}
use Rattle.lines.specs.Commands.{command_of}
use Rattle.lines.specs.Replies.{Reply, opened, admitted, nothing, joined, withdrawn, planned, text_of}
use Rattle.lines.specs.declared.commands.Command.{Command}
use Rattle.lines.specs.declared.commands.Command.TheVariants as command

-- ---- open, admit, join, withdraw

-- the round, if there is one yet, with its list and its table
pub record Site : Type 0 where
  pub current : Option Round
  pub list : List ℕ
  pub table : List ℕ

abbrev pub site : Option Round → List ℕ → List ℕ → Site
site c l t = record { current = c; list = l; table = t }

-- "An accepted open replaces the round"; a refused one changes nothing
abbrev pub replaced : Site → Answer Round → List ℕ → After Site Reply
replaced s (refusal c) l = refused c s
replaced s (result r) l = after (result opened) (site (Some r) l s.table)

unfoldable pub open_line : ℕ → ℕ → ℕ → Site → After Site Reply
open_line key k n s = replaced s (open_call key k n s.list).answer (open_call key k n s.list).left

-- "any other call before one gets 12", and all is as it was; after one it is the round's call
abbrev pub on_round : {A : Type 0} → Option Round → A → (Round → A) → A
on_round None before f = before
on_round (Some r) before f = f r

-- what the round's call says, and what it leaves
abbrev pub said_of : {A : Type 0} → (A → Reply) → After State A → After Site Reply
said_of f a = after (map_answer f a.answer) (site (Some a.left.round) a.left.list a.left.table)

-- "the location in and the one out, or the word none alone"
abbrev pub exchange_reply : maybe.Option (ℕ × ℕ) → Reply
exchange_reply maybe.none = nothing
exchange_reply (maybe.some p) = admitted p.0 p.1

unfoldable pub admit_line : Site → After Site Reply
admit_line s = on_round s.current (refused 12 s) (λ r. said_of exchange_reply (admit_call (state r s.list s.table)))

unfoldable pub join_line : Site → After Site Reply
join_line s = on_round s.current (refused 12 s) (λ r. said_of joined (join_call (state r s.list s.table)))

unfoldable pub withdraw_line : ℕ → Site → After Site Reply
withdraw_line x s =
    on_round s.current (refused 12 s) (λ r. said_of (λ u. withdrawn x) (withdraw_call (state r s.list s.table) x))

-- ---- plan, and any line

-- all that the program has: also the plan's two lists, and a scratch of so many places
pub record World : Type 0 where
  pub site : Site
  pub locations : List ℕ
  pub terminals : List ℕ
  pub places : ℕ

abbrev pub world : Site → List ℕ → List ℕ → ℕ → World
world s ls ts places = record { site = s; locations = ls; terminals = ts; places = places }

-- the plan's sheets in place of its answer, the two lists as it left them
unfoldable pub plan_line : World → After World Reply
plan_line w =
    on_round w.site.current (refused 12 w)
    (λ r.
    let p = plan_call (state r w.site.list w.site.table) w.locations w.terminals w.places in
    after (map_answer planned (shown_plan r.k p)) (world w.site p.left.locations p.left.terminals w.places))

-- the plan's lists stay
abbrev pub on_site : World → After Site Reply → After World Reply
on_site w a = after a.answer (world a.left w.locations w.terminals w.places)

-- "12 .. a program line of no known form"
unfoldable pub answered : World → Answer Command → After World Reply
answered w (refusal c) = refused c w
answered w (result (command.Open key k n)) = on_site w (open_line key k n w.site)
answered w (result command.Admit) = on_site w (admit_line w.site)
answered w (result command.Join) = on_site w (join_line w.site)
answered w (result (command.Withdraw x)) = on_site w (withdraw_line x w.site)
answered w (result command.Plan) = plan_line w

-- ---- lines

unfoldable pub respond : World → List ℕ → After World Reply
respond w line = answered w (command_of line)

-- what stands after lines
abbrev pub after_lines : World → List (List ℕ) → World
after_lines w [] = w
after_lines w (l ∷ ls) = after_lines (respond w l).left ls

-- the text of the answers to lines in order, each on what the one before left
abbrev pub answers : World → List (List ℕ) → List ℕ
answers w [] = []
answers w (l ∷ ls) = text_of (respond w l).answer ++ answers (respond w l).left ls
