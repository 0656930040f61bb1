-- Demand 1 of each call that may be refused: a refusal is one of its own, and the falling walk's leaves the lent walk.
-- Assumes nothing.
use mathlib.Core.Path.{◌≡◌, refl}
use mathlib.Core.Bool.{true}
use mathlib.Core.List.{List}
use mathlib.Core.Option.{Option, none, some}
use Prim.Native.Nat.{ℕ, ◌^◌}
use lib.Dec.{ltb}
use Rattle.lists.specs.Lists.{same, has}
use Rattle.answers.specs.Steps.{Step}
use Rattle.answers.specs.Refusing.{Among, Spares}
use Rattle.lists.proofs.Tests.{by_cond}
use Rattle.hashes.specs.declared.ConsistentHashRevIterator.{ConsistentHashRevIterator}
use Rattle.hashes.specs.Hashes.{prev}
use Rattle.hashes.specs.Next.{smallest_from}
use Rattle.hashes.specs.Calls.{limited, prev_call, next_call}
use Rattle.hashes.specs.Walks.{falling_from, rising_from, go_on_below, fall}
use Rattle.hashes.specs.RefusedBy.{prev_refusals, next_refusals, walk_refusals, fall_refusals}

-- a call that has the one limit
limited_refuses : {A : Type 0} (ws : List ℕ) (n : ℕ) (x : A) → has 1 ws ≡ true → Among ws (limited n x)
unfolding limited
limited_refuses ws n x h = by_cond (Among ws) (ltb (2 ^ 62) n) _ _ (λ above. h) (λ not. tt)

pub prev_refuses : (s n : ℕ) → Among prev_refusals (prev_call s n)
unfolding has same
prev_refuses s n = limited_refuses prev_refusals n (prev s n) refl

pub next_refuses : (s n : ℕ) → Among next_refusals (next_call s n)
unfolding has same
next_refuses s n = limited_refuses next_refusals n (smallest_from s n) refl

pub falling_refuses : (n s : ℕ) → Among walk_refusals (falling_from n s)
unfolding has same
falling_refuses n s = limited_refuses walk_refusals n _ refl

pub rising_refuses : (n s : ℕ) → Among walk_refusals (rising_from n s)
unfolding has same
rising_refuses n s = limited_refuses walk_refusals n _ refl

pub fall_refuses : (w : ConsistentHashRevIterator) → let s = fall w in Spares fall_refusals s.answer w s.left
unfolding fall has same
fall_refuses w = by_cond Spared (ltb (2 ^ 62) w.n) _ _ (λ above. (refl, refl)) (λ not. goes (prev w.state w.n))
  where
    Spared : Step ConsistentHashRevIterator → Type 0
    Spared s = Spares fall_refusals s.answer w s.left

    goes : (o : Option ℕ) → Spared (go_on_below w o)
    goes none = tt
    goes (some x) = tt
