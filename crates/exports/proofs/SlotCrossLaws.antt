-- What a get on a slot map leaves, in the terms of its code: a slot is no refusal.
-- Assumes nothing.
use mathlib.Core.List.{List}
use Prim.Native.Nat.{ℕ, ◌^◌, ◌<◌}
use native.Mathlib.Omega.{arith}
use Rattle.std.specs.Prelude.{Result, Ok, Err, OnOk}
use Rattle.answers.specs.declared.Refusal.{Refusal}
use Rattle.choosers.specs.SlotCalls as calls
use Rattle.exports.specs.Slots.{ScratchAfter}

pub get_spares : (y : Result ℕ Refusal) (r : ℕ) (before now : List ℕ) → OnOk y (r < 2 ^ 32) → calls.ScratchAfter y before now → ScratchAfter r before now
get_spares (Ok x) r before now h k p = absurd (omega (arith, h))
get_spares (Err why) r before now h k p = k
