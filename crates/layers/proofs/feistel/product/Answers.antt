-- `layers::feistel::product` meets its contract.
-- Assumes nothing.
use lib.Bits.{xor_lt}
use Rattle.std.proofs.Common.{arith}
use Rattle.lists.proofs.Numbers.{mul_lt_pow}
use Rattle.layers.proofs.feistel.product.Goals as goal

pub overflow_mul-result : goal.overflow_mul-result
overflow_mul-result c = record { fits = rw (c.from.ensures, c.from-2.ensures) (mul_lt_pow 32 (xor_lt 32 c.args.r c.args.k.xor (omega arith) (omega arith)) (omega arith)) }
