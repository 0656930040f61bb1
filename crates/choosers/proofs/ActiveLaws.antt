-- The active slots as a list: each stands there once; and with one slot less.
-- Assumes nothing.
use mathlib.Core.Path.{◌≡◌, ap}
use mathlib.Core.Logic.{◌≢◌}
use mathlib.Core.Bool.{true, false}
use mathlib.Core.List.{List}
use Prim.Native.Nat.{ℕ, suc, ◌≤◌}
use native.Mathlib.Omega.{arith}
use lib.ListN.{length}
use Rattle.lists.specs.Lists.{occurrences, without}
use Rattle.lists.proofs.Without.{without_length}
use Rattle.lists.proofs.Ranges.{Within, kept_once, keep_out}
use Rattle.choosers.specs.Slots.{active, actives}
use Rattle.choosers.proofs.TableLaws.{active→}

-- only slots below the count are active
pub active_within : (t : List ℕ) (c : ℕ) → Within (active t c) c
active_within t c x y = (active→ t c x y).0

pub actives_once : (t : List ℕ) (c x : ℕ) → active t c x ≡ true → occurrences x (actives t c) ≡ 1
unfolding actives
actives_once t c x y = kept_once (active t c) c x (active_within t c) y

-- with the table u and the count d, x is not active, and every other slot is as with t and c
pub record Out (t : List ℕ) (c : ℕ) (x : ℕ) (u : List ℕ) (d : ℕ) : Type 0 where
  pub less : d ≤ c
  pub gone : active u d x ≡ false
  pub rest : (y : ℕ) → y ≢ x → active u d y ≡ active t c y

module _ {t : List ℕ} {c x : ℕ} {u : List ℕ} {d : ℕ} (o : Out t c x u d) where
  pub out_actives : actives u d ≡ without x (actives t c)
  unfolding actives
  out_actives = keep_out (active t c) (active u d) x d c o.less (active_within u d) o.gone o.rest

  pub out_length : active t c x ≡ true → suc (length (actives u d)) ≡ length (actives t c)
  out_length y = omega (arith, ap length out_actives, without_length x (actives t c), actives_once t c x y)
