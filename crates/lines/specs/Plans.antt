-- When the plan that the program prints is the ledger's: its round is one that demand 3 speaks of, and its memory is long enough.
-- Assumes nothing.
use Rattle.std.specs.Prelude.{List, ℕ, ◌≤◌, length, Option, Some, None}
use Rattle.rounds.specs.declared.round.Round.{Round}
use Rattle.rounds.specs.Rounds.{state}
use Rattle.rounds.specs.Demand3.{Reached}
use Rattle.lines.specs.Sessions.{Site, World}

-- the round, where there is one, is reached by calls from an accepted open
abbrev pub Reaches : Option Round → List ℕ → List ℕ → Type 0
Reaches None l t = Unit {0}
Reaches (Some r) l t = Reached (state r l t)

-- that of a site
abbrev pub SiteReached : Site → Type 0
SiteReached s = Reaches s.current s.list s.table

-- the plan's two lists are no shorter than the round's list, and there is a place of scratch for each byte of the table
pub record Roomy (w : World) : Type 0 where
  pub locations : length w.site.list ≤ length w.locations
  pub terminals : length w.site.list ≤ length w.terminals
  pub scratch : length w.site.table ≤ w.places
