-- `orders::scans::wider_than` meets its contract.
-- Assumes nothing.
use mathlib.Core.Path.{◌≡◌}
use Prim.Native.Nat.{◌^◌}
use native.Mathlib.Omega.{arith}
use Rattle.orders.specs.InnerPasses.{scan_of}
use Rattle.orders.proofs.WideLaws.{wider_start, wider_here, wider_go, wider_none}
use Rattle.orders.proofs.scans.wider_than.Goals as goal
use Rattle.orders.proofs.scans.wider_than.Goals.{After-scan-s}

scan_is : (c : After-scan-s) → c.scan-s.result ≡ scan_of c.args.key c.loop-number.number (4 ^ c.loop-number.number) c.args.k
scan_is c =
    let e = c.new.ensures in
    rw (c.quarter.ensures, e.layer, e.key) at c.scan-s.ensures

pub loop-number-init : goal.loop-number-init
loop-number-init c = wider_start _ _ _

pub returns-then-k-s : goal.returns-then-k-s
returns-then-k-s c =
    wider_here _ _ _ _ _ (omega arith) (scan_is (goal.at.returns-then-k-s c).After-scan-s) c.if-k-s.true c.loop-number.invariant

pub loop-number-preserved : goal.loop-number-preserved
loop-number-preserved c =
    wider_go _ _ _ _ _ (omega arith) (scan_is (goal.at.loop-number-preserved c).After-scan-s) c.if-k-s.false c.loop-number.invariant

pub returns : goal.returns
returns c = wider_none _ _ _ c.loop-number.number (omega arith) c.loop-number.invariant
