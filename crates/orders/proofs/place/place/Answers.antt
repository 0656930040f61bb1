-- `orders::place::place` meets its contract.
-- Assumes nothing.
use mathlib.Core.Path.{◌≡◌, sym, ap, ◌∙◌}
use Prim.Native.Nat.{suc, ◌-◌, ◌<◌}
use native.Mathlib.Numerals.{add-one}
use native.Mathlib.Omega.{arith}
use Rattle.answers.specs.Answers.{result}
use Rattle.lists.specs.Lists.{count_below}
use Rattle.layers.specs.Layer.{size}
use Rattle.layers.specs.Inverses.{input_of}
use Rattle.layers.proofs.InverseLaws.{input_lt}
use Rattle.orders.specs.Orders.{layer_of}
use Rattle.orders.specs.InnerPasses.{outs, climb}
use Rattle.orders.proofs.LogLaws.{size_suc, layer_fits}
use Rattle.orders.proofs.CoverLaws.{take_outs}
use Rattle.orders.proofs.PlaceLaws.{place_above, place_no, place_in}
use Rattle.orders.proofs.ClimbLaws.{layer_up, placed_by_climb, placed_whole}
use Rattle.orders.proofs.place.place.Goals as goal
use Rattle.orders.proofs.place.place.Goals.{After-of-top, After-climbed-t}

own_is : (c : After-of-top) → c.of-own.result.number ≡ layer_of (suc c.args.location)
own_is c = c.of-own.ensures ∙ ap layer_of (add-one c.args.location)

own_fits : (c : After-of-top) → c.args.location < size c.of-own.result.number
own_fits c = rw (own_is c) (omega (arith, layer_fits (suc c.args.location), size_suc (layer_of (suc c.args.location))))

climb_is : (c : After-climbed-t) → c.climbed-t.result ≡ climb c.args.key (layer_of (suc c.args.location)) (input_of (layer_of (suc c.args.location)) c.args.key c.args.location) (layer_of c.args.n - layer_of (suc c.args.location))
climb_is c =
    rw (c.input.ensures, own_is (goal.at.After-climbed-t c).After-of-top, c.of-top.ensures) at c.climbed-t.ensures.place

pub returns-then-n-gt-N_LIMIT : goal.returns-then-n-gt-N_LIMIT
returns-then-n-gt-N_LIMIT c = sym (place_above _ _ _ (omega arith))

pub returns-then-n-location : goal.returns-then-n-location
returns-then-n-location c = sym (place_no _ _ _ (omega arith) (omega arith))

pub input-requires : goal.input-requires
input-requires c = own_fits (goal.at.input-requires c).After-of-top

pub climbed-t-requires-clause-up : goal.climbed-t-requires-clause-up
climbed-t-requires-clause-up c =
    rw (own_is (goal.at.climbed-t-requires-clause-up c).After-of-top, c.of-top.ensures) (layer_up c.args.n c.args.location (omega arith))

pub climbed-t-requires-clause-fit : goal.climbed-t-requires-clause-fit
climbed-t-requires-clause-fit c =
    rw c.input.ensures (input_lt _ _ _ (own_fits (goal.at.climbed-t-requires-clause-fit c).After-of-top))

pub returns-then-n-size : goal.returns-then-n-size
returns-then-n-size c =
    let a = c.args in
    let s = (goal.at.returns-then-n-size c).After-climbed-t in
    let full : a.n ≡ size (layer_of a.n) = rw c.of-top.ensures at (c.if-n-size.true ∙ c.size.ensures) in
    let within : c.climbed-t.result < size (layer_of a.n) = rw c.of-top.ensures at c.climbed-t.ensures.within in
    sym (place_in a.key a.n a.location (omega arith) (omega arith) ∙ ap result (placed_whole a.key a.n a.location _ (omega arith) (omega arith) (climb_is s) full within))

pub returns : goal.returns
returns c =
    let a = c.args in
    let j = layer_of a.n in
    let t = c.climbed-t.result in
    let s = (goal.at.returns c).After-climbed-t in
    let within : t < size j = rw c.of-top.ensures at c.climbed-t.ensures.within in
    let e : t - 0 ≡ t = omega arith in
    let counted : c.count_below.result ≡ count_below a.n (outs a.key j 0 t) = rw (c.new.ensures.layer, c.new.ensures.key, c.of-top.ensures, e) at c.count_below.ensures in
    sym
    (place_in a.key a.n a.location (omega arith) (omega arith)
    ∙ ap result (placed_by_climb a.key a.n a.location t (omega arith) (omega arith) (climb_is s) ∙ ap (count_below a.n) (take_outs a.key j 0 (size j) t (omega (arith, within))) ∙ sym counted))
