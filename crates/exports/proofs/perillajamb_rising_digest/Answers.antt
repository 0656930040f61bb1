-- `exports::perillajamb_rising_digest` meets its contract.
-- Assumes nothing.
use mathlib.Core.Path.{◌∙◌, sym}
use Rattle.hashes.proofs.WalkLaws.{above_of}
use Rattle.exports.specs.Coded.{rising_digest}
use Rattle.exports.proofs.DigestLaws.{digest_made, digest_refused}
use Rattle.exports.proofs.perillajamb_rising_digest.Goals as goal

pub returns-in-Ok : goal.returns-in-Ok
unfolding rising_digest
returns-in-Ok c = digest_made _ _ above_of _ _ (sym c.in-Ok.ensures) c.rising_fed.ensures

pub returns-in-Err : goal.returns-in-Err
unfolding rising_digest
returns-in-Err c = c.refused.ensures ∙ digest_refused _ _ above_of _ (sym c.in-Err.ensures)
