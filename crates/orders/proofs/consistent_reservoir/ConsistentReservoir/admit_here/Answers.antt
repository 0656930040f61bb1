-- `orders::consistent_reservoir::ConsistentReservoir::admit_here` meets its contract.
-- Assumes nothing.
use mathlib.Core.Path.{◌≡◌, sym, ◌∙◌}
use Prim.Native.Nat.{◌-◌}
use native.Mathlib.Omega.{arith}
use lib.ListN.{length, take}
use lib.Seq.{length-take-le}
use Rattle.orders.proofs.CheckLaws.{Fits, fits_parts}
use Rattle.orders.proofs.AdmitLaws.{here_v, here_end, here_done}
use Rattle.orders.proofs.consistent_reservoir.ConsistentReservoir.admit_here.Goals as goal
use Rattle.orders.proofs.consistent_reservoir.ConsistentReservoir.admit_here.Goals.{Start}

in_list : (c : Start) → length (take (c.args.self.now.used - 1) c.args.list.now) ≡ c.args.self.now.used - 1
in_list c =
    let r = c.args.self.now in
    let f : Fits _ _ = fits_parts _ _ c.requires.fit in
    length-take-le (r.used - 1) c.args.list.now (omega (arith, f.shape.used_le))

pub slice_bounds-standing-end : goal.slice_bounds-standing-end
slice_bounds-standing-end c = sym (in_list (goal.at.slice_bounds-standing-end c).Start)

pub standing-self-requires-clause-few : goal.standing-self-requires-clause-few
standing-self-requires-clause-few c = omega (arith, in_list (goal.at.standing-self-requires-clause-few c).Start)

pub overflow_add-self : goal.overflow_add-self
overflow_add-self c =
    let p = c.requires in
    omega (arith, here_v _ _ p.fit p.more _ p.low)

pub bounds-list-last : goal.bounds-list-last
bounds-list-last c = omega (arith, (fits_parts _ _ c.requires.fit).shape.used_le)

pub returns : goal.returns
returns c =
    let p = c.requires in
    here_done _ _ p.fit p.more _ p.low _ (c.standing-self.ensures ∙ here_end _ _ p.fit p.more _ p.low)
