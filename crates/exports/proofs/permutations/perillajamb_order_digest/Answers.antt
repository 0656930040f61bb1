-- `exports::permutations::perillajamb_order_digest` meets its contract.
-- Assumes nothing.
use borrow.Author.Rules.{rules}
use Rattle.exports.proofs.OrderCrossLaws.{digest_is, digest_refused}
use Rattle.exports.proofs.permutations.perillajamb_order_digest.Goals as goal

pub returns-then-n-gt-N_LIMIT : goal.returns-then-n-gt-N_LIMIT
returns-then-n-gt-N_LIMIT c = digest_refused c.args.key c.args.n c.args.count _ c.if-n-gt-N_LIMIT.true c.refused.ensures

pub returns : goal.returns
returns c =
    let a = c.args in
    digest_is a.key a.n a.count _ (search rules) c.numbers_fed.ensures
