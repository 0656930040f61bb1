-- `exports::perillajamb_falling_digest` meets its contract.
-- Assumes nothing.
use mathlib.Core.Path.{◌∙◌, ◌≡◌, sym, ap}
use native.Mathlib.Omega.{arith}
use Rattle.hashes.specs.declared.ConsistentHashRevIterator.{ConsistentHashRevIterator}
use Rattle.hashes.proofs.WalkLaws.{below_of}
use Rattle.hashes.proofs.CallLaws.{limited_says}
use Rattle.exports.specs.Coded.{falling_digest}
use Rattle.exports.proofs.DigestLaws.{digest_made, digest_refused}
use Rattle.exports.proofs.perillajamb_falling_digest.Goals as goal

pub falling_fed-requires : goal.falling_fed-requires
falling_fed-requires c =
    let s = limited_says _ _ _ (sym c.in-Ok.ensures) in
    let e : c.in-Ok.walk.n ≡ c.args.n = ap (λ (w : ConsistentHashRevIterator). w.n) s.1 in
    omega (arith, s.0)

pub returns-in-Ok : goal.returns-in-Ok
unfolding falling_digest
returns-in-Ok c = digest_made _ _ below_of _ _ (sym c.in-Ok.ensures) c.falling_fed.ensures

pub returns-in-Err : goal.returns-in-Err
unfolding falling_digest
returns-in-Err c = c.refused.ensures ∙ digest_refused _ _ below_of _ (sym c.in-Err.ensures)
