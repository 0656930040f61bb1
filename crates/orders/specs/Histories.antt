-- Many calls on one reservoir.
-- Assumes nothing.
use Rattle.std.specs.Prelude.{List, [], ◌∷◌}
use Rattle.orders.specs.ReservoirCalls.{admit_call, grow_layer_call, ReservoirState}

-- the calls that change a reservoir
pub data Call : Type 0 where
  admit : Call
  grow_layer : Call

abbrev pub step_by : Call → ReservoirState → ReservoirState
step_by admit t = (admit_call t.reservoir t.list).left
step_by grow_layer t = (grow_layer_call t.reservoir t.list).left

-- the record and the list after a list of calls, refused ones too
abbrev pub after_all : List Call → ReservoirState → ReservoirState
after_all [] t = t
after_all (c ∷ cs) t = after_all cs (step_by c t)
