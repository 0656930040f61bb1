-- Document 01's table of six lines, computed on the definitions from its bytes to its bytes.
-- Assumes nothing.
use mathlib.Core.Path.{◌≡◌, refl}
use mathlib.Core.List.{List, [], ◌∷◌}
use Prim.Native.Nat.{ℕ}
use Rattle.lists.specs.Lists.{below, same, has, every, last, written, lacked}
use Rattle.words.specs.Words.{mix, wrapping_mul, rotate_right}
use Rattle.layers.specs.Layer.{start, round_function, next_key, round, rounds, over, layer, top_bits}
use Rattle.hashes.specs.Hashes.{feed, draw, draws, later_numbers, numbers, bucket_hashes, bucket_draws, is_set, bucket, buckets, hashes, prev}
use Rattle.hashes.specs.Calls.{prev_number}
use Rattle.orders.specs.Orders.{log2, layer_of, output, counted, zero_top, whole, P}
use Rattle.orders.specs.Reservoirs.{counts, opening}
use Rattle.orders.specs.ReservoirCalls as Reservoir
use Rattle.choosers.specs.Choosers.{g, largest_g, S, Q}
use Rattle.choosers.specs.Slots.{active, deleted, actives, vacant, holder}
use Rattle.choosers.specs.SlotCalls as Slots
use Rattle.rounds.specs.Locations.{state_of}
use Rattle.rounds.specs.Rounds.{fitting, open_call, join_call, withdraw_call}
use Rattle.rounds.specs.Plans.{terminal_of, plan_call, shown_plan}
use Rattle.fields.specs.Lines.{lines_of}
use Rattle.fields.specs.Numbers.{within, digit_of, number_of, key_of}
use Rattle.fields.specs.Printing.{decimal_of, tabbed}
use Rattle.lines.specs.Commands.{word_alone, word_and_one, word_and_three, command_of}
use Rattle.lines.specs.Replies.{place_line, reply_text, text_of}
use Rattle.lines.specs.Sessions.{World, world, site, open_line, join_line, withdraw_line, plan_line, answered, respond, answers}
use Rattle.std.specs.Prelude.{None}

-- no round; a list of four places, a table of two bytes, the plan's lists and the scratch of two places
abbrev memory : World
memory = world (site None (0 ∷ 0 ∷ 0 ∷ 0 ∷ []) (0 ∷ 0 ∷ [])) (0 ∷ 0 ∷ []) (0 ∷ 0 ∷ []) 2

-- open⇥0000000000000001⇥1⇥1, join, plan, withdraw⇥3, withdraw⇥0, plan
abbrev typed : List ℕ
typed =
    111 ∷ 112 ∷ 101 ∷ 110 ∷ 9 ∷ 48 ∷ 48 ∷ 48 ∷ 48 ∷ 48 ∷ 48 ∷ 48 ∷ 48 ∷ 48 ∷ 48 ∷ 48 ∷ 48 ∷ 48 ∷ 48 ∷ 48 ∷ 49 ∷ 9 ∷ 49 ∷ 9 ∷ 49 ∷ 10
    ∷ 106 ∷ 111 ∷ 105 ∷ 110 ∷ 10
    ∷ 112 ∷ 108 ∷ 97 ∷ 110 ∷ 10
    ∷ 119 ∷ 105 ∷ 116 ∷ 104 ∷ 100 ∷ 114 ∷ 97 ∷ 119 ∷ 9 ∷ 51 ∷ 10
    ∷ 119 ∷ 105 ∷ 116 ∷ 104 ∷ 100 ∷ 114 ∷ 97 ∷ 119 ∷ 9 ∷ 48 ∷ 10
    ∷ 112 ∷ 108 ∷ 97 ∷ 110 ∷ 10 ∷ []

-- opened, joined⇥0, 0⇥0⇥0, refused⇥10, withdrawn⇥0, refused⇥11
abbrev printed : List ℕ
printed =
    111 ∷ 112 ∷ 101 ∷ 110 ∷ 101 ∷ 100 ∷ 10
    ∷ 106 ∷ 111 ∷ 105 ∷ 110 ∷ 101 ∷ 100 ∷ 9 ∷ 48 ∷ 10
    ∷ 48 ∷ 9 ∷ 48 ∷ 9 ∷ 48 ∷ 10
    ∷ 114 ∷ 101 ∷ 102 ∷ 117 ∷ 115 ∷ 101 ∷ 100 ∷ 9 ∷ 49 ∷ 48 ∷ 10
    ∷ 119 ∷ 105 ∷ 116 ∷ 104 ∷ 100 ∷ 114 ∷ 97 ∷ 119 ∷ 110 ∷ 9 ∷ 48 ∷ 10
    ∷ 114 ∷ 101 ∷ 102 ∷ 117 ∷ 115 ∷ 101 ∷ 100 ∷ 9 ∷ 49 ∷ 49 ∷ 10 ∷ []

pub document : answers memory (lines_of typed) ≡ printed
unfolding respond answered open_line join_line withdraw_line plan_line command_of word_alone word_and_one word_and_three number_of key_of digit_of within text_of reply_text place_line tabbed decimal_of open_call join_call withdraw_call plan_call shown_plan terminal_of fitting Reservoir.open_call Reservoir.fitting Reservoir.sample Slots.fitting Slots.add_call Slots.remove_call opening written P whole layer_of log2 counts below output counted zero_top top_bits layer start rounds round round_function next_key over rotate_right every last actives active vacant deleted holder state_of Q lacked has same S largest_g g prev_number prev hashes buckets bucket is_set bucket_hashes bucket_draws draws draw feed numbers later_numbers mix wrapping_mul
document = refl
