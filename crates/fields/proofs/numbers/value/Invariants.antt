-- The loop of `fields::numbers::value`.
-- Assumes nothing.
use Rattle.std.proofs.Common.{◌≡◌, ◌<◌, ◌^◌, drop}
use Rattle.fields.specs.Numbers.{value_of}
use Rattle.fields.proofs.numbers.value.Given as goal

abbrev pub invariant-loop-byte : goal.invariant-loop-byte
invariant-loop-byte l = (l.value < 16 ^ l.byte-index) × (value_of l.base 0 l.digits ≡ value_of l.base l.value (drop l.byte-index l.digits))
