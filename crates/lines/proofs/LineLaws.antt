-- The answers to lines, by the round's calls as the code makes them.
-- Assumes nothing.
use mathlib.Core.Path.{◌≡◌, refl, sym, ap, ◌∙◌}
use mathlib.Core.List.{List}
use Prim.Native.Nat.{ℕ}
use lib.ListN.{take}
use Rattle.std.proofs.Math.Option as maybe
use Rattle.std.proofs.Common.{MutBor}
use Rattle.std.specs.Prelude.{Option, Some, None, Ok, Err}
use Rattle.std.specs.Option.{ok_or, option_copied_mut}
use Rattle.answers.specs.declared.Refusal.{Refusal}
use Rattle.answers.specs.Answers.{Answer, refusal, result, map_answer, after, After, refused}
use Rattle.answers.proofs.AnswerLaws.{not_said}
use Rattle.orders.specs.declared.consistent_reservoir.ConsistentReservoir.{ConsistentReservoir}
use Rattle.orders.specs.ReservoirCalls as Reservoir
use Rattle.orders.specs.declared.consistent_reservoir.Exchange.{Exchange}
use Rattle.orders.proofs.ReservoirLaws.{open_kept}
use Rattle.choosers.specs.SlotCalls as Slots
use Rattle.rounds.specs.declared.round.Round.{Round}
use Rattle.rounds.specs.Rounds.{round_of, state, open_call, admit_call, join_call, withdraw_call}
use Rattle.rounds.specs.Plans.{sheets, plan_call, shown_plan, plan_lists, PlanLists}
use Rattle.lines.specs.Replies as Replies
use Rattle.lines.specs.Commands.{parse_call}
use Rattle.lines.specs.Sessions.{Site, on_site, site, replaced, open_line, said_of, exchange_reply, admit_line, join_line, withdraw_line, World, world, plan_line, answered, respond}
use Rattle.lines.specs.InnerLines.{admitted_reply}
use Rattle.lines.specs.declared.commands.Command.{Command}
use Rattle.lines.specs.declared.commands.Command.TheVariants as command
use Rattle.lines.specs.Replies.{Reply}

-- ---- open

-- a refused open leaves the list
open_keeps : (key k n : ℕ) (l : List ℕ) (w : ℕ) → (open_call key k n l).answer ≡ refusal w → (open_call key k n l).left ≡ l
unfolding open_call
open_keeps key k n l w =
    open_kept (λ (o : After (List ℕ) ConsistentReservoir). map_answer (λ a. round_of a (Slots.map_of 0)) o.answer ≡ refusal w → o.left ≡ l) k n key l
    (λ c e. refl)
    (λ r l' h e. not_said w (round_of r (Slots.map_of 0)) (sym e))

module _ (key k n : ℕ) (l l' t : List ℕ) (c : Option Round) where
  pub open_made : (r : Round) → after (result r) l' ≡ open_call key k n l → after (result Replies.opened) (site (Some r) l' t) ≡ open_line key k n (site c l t)
  unfolding open_line
  open_made r is = ap (λ (x : After (List ℕ) Round). replaced (site c l t) x.answer x.left) is

  pub open_refused : (w : ℕ) → refused w l' ≡ open_call key k n l → refused w (site c l' t) ≡ open_line key k n (site c l t)
  unfolding open_line
  open_refused w is =
      let answer : (open_call key k n l).answer ≡ refusal w = sym (ap (λ (x : After (List ℕ) Round). x.answer) is) in
      let same : l' ≡ l = ap (λ (x : After (List ℕ) Round). x.left) is ∙ open_keeps key k n l w answer in
      ap (λ (x : List ℕ). refused w (site c x t)) same
      ∙ ap (λ (x : Answer Round). replaced (site c l t) x (open_call key k n l).left) (sym answer)

-- ---- the round that a call is on

-- an option that `ok_or` refuses for is none, and the refusal is that one
pub none_had : {A : Type 0} (o : Option A) (w why : Refusal) → Err why ≡ ok_or o w → (o ≡ None) × (why ≡ w)
none_had None w why is = (refl, cc)
none_had (Some s) w why is = cc

-- what is lent out of an option says what it is
pub lent_is : (c : Option Round) (o x : Option (MutBor Round)) → option_copied_mut o ≡ c → o ≡ x → c ≡ option_copied_mut x
lent_is c o x lent is = sym lent ∙ ap option_copied_mut is

-- ---- admit, join, withdraw

module _ (l t : List ℕ) (c : Option Round) where
  -- before an open,
  module _ (e : c ≡ None) where
    pub admit_none : refused 12 (site c l t) ≡ admit_line (site c l t)
    unfolding admit_line
    admit_none = rw e

    pub join_none : refused 12 (site c l t) ≡ join_line (site c l t)
    unfolding join_line
    join_none = rw e

    pub withdraw_none : (x : ℕ) → refused 12 (site c l t) ≡ withdraw_line x (site c l t)
    unfolding withdraw_line
    withdraw_none x = rw e

  -- and after one
  module _ (r r' : Round) (e : c ≡ Some r) where
    pub admit_on : (x : Answer (maybe.Option (ℕ × ℕ))) (l' : List ℕ) → after x (state r' l' t) ≡ admit_call (state r l t)
        → after (map_answer exchange_reply x) (site (Some r') l' t) ≡ admit_line (site c l t)
    unfolding admit_line
    admit_on x l' is = rw e (ap (said_of exchange_reply) is)

    pub join_on : (x : Answer ℕ) (t' : List ℕ) → after x (state r' l t') ≡ join_call (state r l t) → after (map_answer Replies.joined x) (site (Some r') l t') ≡ join_line (site c l t)
    unfolding join_line
    join_on x t' is = rw e (ap (said_of Replies.joined) is)

    pub withdraw_on : (s : ℕ) (x : Answer (Unit {0})) (t' : List ℕ) → after x (state r' l t') ≡ withdraw_call (state r l t) s
        → after (map_answer (λ u. Replies.withdrawn s) x) (site (Some r') l t') ≡ withdraw_line s (site c l t)
    unfolding withdraw_line
    withdraw_on s x t' is = rw e (ap (said_of (λ u. Replies.withdrawn s)) is)

-- an exchange as a reply
pub exchange_answer : (e : Option Exchange) → result (admitted_reply e) ≡ map_answer exchange_reply (Reservoir.answer_of_exchange (Ok e))
exchange_answer (Some e) = refl
exchange_answer None = refl

-- ---- plan

module _ (l t ls ts : List ℕ) (places : ℕ) (c : Option Round) where
  pub plan_none : c ≡ None → refused 12 (world (site c l t) ls ts places) ≡ plan_line (world (site c l t) ls ts places)
  unfolding plan_line
  plan_none e = rw e

  module _ (r : Round) (e : c ≡ Some r) (ls' ts' : List ℕ) where
    pub plan_refused : (w : ℕ) → refused w (plan_lists ls' ts') ≡ plan_call (state r l t) ls ts places
        → refused w (world (site c l t) ls' ts' places) ≡ plan_line (world (site c l t) ls ts places)
    unfolding plan_line shown_plan
    plan_refused w is = rw e (ap (λ (a : After PlanLists (Unit {0})). after (map_answer Replies.planned (shown_plan r.k a)) (world (site (Some r) l t) a.left.locations a.left.terminals places)) is)

    pub plan_done : after (result tt) (plan_lists ls' ts') ≡ plan_call (state r l t) ls ts places
        → after (result (Replies.planned (sheets (take r.k ls') (take r.k ts')))) (world (site c l t) ls' ts' places) ≡ plan_line (world (site c l t) ls ts places)
    unfolding plan_line shown_plan
    plan_done is = rw e (ap (λ (a : After PlanLists (Unit {0})). after (map_answer Replies.planned (shown_plan r.k a)) (world (site (Some r) l t) a.left.locations a.left.terminals places)) is)

-- ---- lines

-- a line of no known form
pub respond_misfit : (w : World) (line : List ℕ) (c : ℕ) → refusal c ≡ parse_call line → refused c w ≡ respond w line
unfolding respond parse_call answered
respond_misfit w line c e = ap (answered w) e

-- any other is what its command asks for
respond_command : (w : World) (line : List ℕ) (cmd : Command) → result cmd ≡ parse_call line → answered w (result cmd) ≡ respond w line
unfolding respond parse_call
respond_command w line cmd e = ap (answered w) e

module _ (w : World) (line : List ℕ) (cmd : Command) (asked : result cmd ≡ parse_call line) (r : Answer Replies.Reply) (s : Site) where
  pub respond_open : (key k n : ℕ) → cmd ≡ command.Open key k n → after r s ≡ open_line key k n w.site → after r (world s w.locations w.terminals w.places) ≡ respond w line
  unfolding answered
  respond_open key k n e is = ap (on_site w) is ∙ ap (λ (x : Command). answered w (result x)) (sym e) ∙ respond_command w line cmd asked

  pub respond_admit : cmd ≡ command.Admit → after r s ≡ admit_line w.site → after r (world s w.locations w.terminals w.places) ≡ respond w line
  unfolding answered
  respond_admit e is = ap (on_site w) is ∙ ap (λ (x : Command). answered w (result x)) (sym e) ∙ respond_command w line cmd asked

  pub respond_join : cmd ≡ command.Join → after r s ≡ join_line w.site → after r (world s w.locations w.terminals w.places) ≡ respond w line
  unfolding answered
  respond_join e is = ap (on_site w) is ∙ ap (λ (x : Command). answered w (result x)) (sym e) ∙ respond_command w line cmd asked

  pub respond_withdraw : (x : ℕ) → cmd ≡ command.Withdraw x → after r s ≡ withdraw_line x w.site → after r (world s w.locations w.terminals w.places) ≡ respond w line
  unfolding answered
  respond_withdraw x e is = ap (on_site w) is ∙ ap (λ (x : Command). answered w (result x)) (sym e) ∙ respond_command w line cmd asked

pub respond_plan : (w : World) (line : List ℕ) (cmd : Command) → result cmd ≡ parse_call line → cmd ≡ command.Plan → (x : After World Reply) → x ≡ plan_line w → x ≡ respond w line
unfolding answered
respond_plan w line cmd asked e x is = is ∙ ap (λ (x : Command). answered w (result x)) (sym e) ∙ respond_command w line cmd asked
