-- A round from its open to its plan, computed on the definitions, against numbers of the original: nothing that is said of every
-- list of calls is said of none.
-- Assumes nothing.
use mathlib.Core.Path.{◌≡◌, refl, sym}
use native.Mathlib.Omega.{arith}
use mathlib.Core.List.{List, [], ◌∷◌}
use mathlib.Core.Option.{some}
use Prim.Native.Nat.{ℕ}
use Rattle.answers.specs.Answers.{Answer, result, refusal, after}
use Rattle.lists.specs.Lists.{below, not_below, same, has, every, standing, last, other, written, lacked}
use Rattle.words.specs.Words.{mix, wrapping_mul, rotate_right}
use Rattle.layers.specs.Layer.{start, round_function, next_key, round, rounds, over, layer, top_bits}
use Rattle.hashes.specs.Hashes.{feed, draw, draws, later_numbers, numbers, bucket_hashes, bucket_draws, is_set, bucket, buckets, hashes, prev}
use Rattle.hashes.specs.Calls.{prev_number}
use Rattle.orders.specs.Orders.{log2, layer_of, output, counted, zero_top, whole, P}
use Rattle.orders.specs.Reservoirs.{counts, opening, incoming, up_to_zeros, grown, wider, due}
use Rattle.orders.specs.ReservoirCalls as Reservoir
use Rattle.choosers.specs.Choosers.{g, largest_g, S, Q}
use Rattle.choosers.specs.Slots.{active, deleted, actives, vacant, holder, slot_among}
use Rattle.choosers.specs.SlotCalls as Slots
use Rattle.std.specs.Prelude as rust
use Rattle.std.proofs.Math.Path.{subst₂}
use Rattle.answers.specs.declared.Refusal.TheVariants.{SlotNotActive}
use Rattle.rounds.specs.Locations.{state_of, slot_of}
use Rattle.rounds.specs.declared.round.Round.{Round}
use Rattle.rounds.specs.Rounds.{State, state, fitting, open_call, admit_call, join_call, withdraw_call}
use Rattle.rounds.specs.Ledgers.{Call, admit, join, withdraw, ledger, first_ledger, free_slot, accept, sheet, plan_from, ledger_plan, fed_all}
use Rattle.rounds.specs.Plans.{terminal_of, plan_call, shown_plan, plan_lists}
use Rattle.rounds.specs.Histories.{Opens, AllMade, made_none, made_next, admit_left, join_left, join_returned, withdraw_returned, refusals, call, after_all, all_said}
use Rattle.rounds.specs.Demand3.{Reached, PlanOf}
use Rattle.rounds.proofs.FormLaws.{calls_made}

abbrev key : ℕ
key = 0x0123_4567_89AB_CDEF

-- a round's record under the key, 2 of n
abbrev record_of : ℕ → ℕ → ℕ → Round
record_of n j total = record { master_key = key; k = 2; n = n; j_max = j; used = 2; total = total }

-- 2 of 3 are opened, in a list of eight places; a table of three bytes is lent, whatever stands in it
abbrev begin : State
begin = state (record_of 3 0 0) (0 ∷ 1 ∷ 77 ∷ 77 ∷ 77 ∷ 77 ∷ 77 ∷ 77 ∷ []) (9 ∷ 8 ∷ 7 ∷ [])

opened : open_call key 2 3 (77 ∷ 77 ∷ 77 ∷ 77 ∷ 77 ∷ 77 ∷ 77 ∷ 77 ∷ []) ≡ after (result begin.round) begin.list
unfolding open_call Reservoir.open_call opening written P whole layer_of log2 counts below output counted zero_top top_bits layer start rounds round round_function next_key over rotate_right
opened = refl

pub opens : Opens key 2 3 begin
opens = record { lent = 77 ∷ 77 ∷ 77 ∷ 77 ∷ 77 ∷ 77 ∷ 77 ∷ 77 ∷ []; accepted = opened }

abbrev calls : List Call
calls = join ∷ join ∷ admit ∷ withdraw 5 ∷ join ∷ join ∷ admit ∷ withdraw 1 ∷ admit ∷ withdraw 2 ∷ join ∷ admit ∷ admit ∷ []

-- refused are the withdraw of 5 (10), the fourth join (9) and the last admit (4)
abbrev said : List (Answer (List ℕ))
said =
    result (0 ∷ []) ∷ result (1 ∷ []) ∷ result (6 ∷ 1 ∷ []) ∷ refusal 10 ∷ result (2 ∷ []) ∷ refusal 9 ∷ result (7 ∷ 6 ∷ []) ∷ result [] ∷ result (9 ∷ 7 ∷ []) ∷ result [] ∷ result (1 ∷ [])
    ∷ result (13 ∷ 0 ∷ []) ∷ refusal 4 ∷ []

pub all_said_lem : all_said begin calls ≡ said
unfolding all_said call admit_call join_call withdraw_call fitting Reservoir.fitting Reservoir.sample Reservoir.admit_call Reservoir.exchange Reservoir.exchange_by Slots.fitting Slots.add_call Slots.remove_call every last incoming not_below standing written grown up_to_zeros wider counts below zero_top top_bits layer start rounds round round_function next_key over rotate_right vacant deleted active
all_said_lem = refl

-- The first four of them made in both ways: the first join and the admit on the lent record, the others by value. The admit goes to
-- layer 1.
abbrev wide : State
wide = state (record { master_key = key; k = 2; n = 7; j_max = 1; used = 7; total = 2 }) (9 ∷ 13 ∷ 0 ∷ 7 ∷ 12 ∷ 8 ∷ 6 ∷ 77 ∷ []) (1 ∷ 1 ∷ 7 ∷ [])

pub made_both : AllMade begin (join ∷ join ∷ admit ∷ withdraw 5 ∷ []) (result (0 ∷ []) ∷ result (1 ∷ []) ∷ result (6 ∷ 1 ∷ []) ∷ refusal 10 ∷ []) wide
unfolding admit_call join_call withdraw_call fitting Reservoir.fitting Reservoir.sample Reservoir.admit_call Reservoir.exchange Reservoir.exchange_by Slots.fitting Slots.add_call Slots.remove_call every last incoming not_below standing written grown up_to_zeros wider counts below zero_top top_bits layer start rounds round round_function next_key over rotate_right vacant deleted active
made_both =
    made_next (join_left (rust.Ok 0) (record_of 3 0 1) (1 ∷ 8 ∷ 7 ∷ []) refl)
    (made_next (join_returned (record_of 3 0 2, rust.Ok 1) (1 ∷ 1 ∷ 7 ∷ []) refl)
    (made_next (admit_left (rust.Ok (rust.Some (record { enters = 6; leaves = 1 }))) wide.round wide.list refl)
    (made_next (withdraw_returned 5 (wide.round, rust.Err SlotNotActive) wide.table refl)
    (made_none wide))))

-- the round after them
abbrev end : State
end = state (record_of 14 1 2) (9 ∷ 13 ∷ 0 ∷ 7 ∷ 12 ∷ 8 ∷ 6 ∷ 77 ∷ []) (1 ∷ 1 ∷ 1 ∷ [])

pub after_all_lem : after_all begin calls ≡ end
unfolding after_all call admit_call join_call withdraw_call fitting Reservoir.fitting Reservoir.sample Reservoir.admit_call Reservoir.exchange Reservoir.exchange_by Slots.fitting Slots.add_call Slots.remove_call every last incoming not_below standing written grown up_to_zeros wider counts below zero_top top_bits layer start rounds round round_function next_key over rotate_right vacant deleted active
after_all_lem = refl

pub reached : Reached end
reached = record {
  key = key;
  k = 2;
  n = 3;
  start = begin;
  opens = opens;
  calls = calls;
  answers = said;
  made = subst₂ (AllMade begin calls) all_said_lem after_all_lem (calls_made calls begin);
}

-- its plan, over the first two places of lists of three: location 9 to terminal 0, 13 to terminal 1
pub planned : plan_call end (5 ∷ 5 ∷ 5 ∷ []) (6 ∷ 6 ∷ 6 ∷ []) 3 ≡ after (result tt) (plan_lists (9 ∷ 13 ∷ 5 ∷ []) (0 ∷ 1 ∷ 6 ∷ []))
unfolding plan_call terminal_of fitting Reservoir.fitting Reservoir.sample Slots.fitting every last written counts below actives active holder state_of Q lacked has same S largest_g g prev_number prev hashes buckets bucket is_set bucket_hashes bucket_draws draws draw feed numbers later_numbers mix wrapping_mul
planned = refl

-- the plan of the round as opened: 11
pub none_active : plan_call begin (5 ∷ 5 ∷ []) (6 ∷ 6 ∷ []) 3 ≡ after (refusal 11) (plan_lists (5 ∷ 5 ∷ []) (6 ∷ 6 ∷ []))
unfolding plan_call fitting Reservoir.fitting Reservoir.sample Slots.fitting every last counts below actives active
none_active = refl

-- ---- the ledger's side, from the key, the calls and which of them were refused

pub fed_all_lem : fed_all (first_ledger key 2 3) calls (refusals said) ≡ ledger key 2 14 (1 ∷ 0 ∷ []) 2
unfolding fed_all accept free_slot due has same other P whole layer_of log2 below output counted zero_top top_bits layer start rounds round round_function next_key over rotate_right
fed_all_lem = refl

pub ledger_plan_lem : ledger_plan (ledger key 2 14 (1 ∷ 0 ∷ []) 2) ≡ result (sheet 9 (some 0) ∷ sheet 13 (some 1) ∷ [])
unfolding plan_from P whole layer_of log2 output counted zero_top top_bits layer start rounds round round_function next_key over rotate_right below slot_of slot_among state_of Q lacked has same S largest_g g prev_number prev hashes buckets bucket is_set bucket_hashes bucket_draws draws draw feed numbers later_numbers mix wrapping_mul
ledger_plan_lem = refl

-- so the round reached has a plan, as demand 3 has it
pub plan_of : PlanOf end (result (sheet 9 (some 0) ∷ sheet 13 (some 1) ∷ []))
unfolding shown_plan
plan_of = record {
  ls = 5 ∷ 5 ∷ 5 ∷ [];
  ts = 6 ∷ 6 ∷ 6 ∷ [];
  places = 3;
  enough = record { locations = omega arith; terminals = omega arith; scratch = omega arith };
  o = rust.Ok tt;
  ls' = 9 ∷ 13 ∷ 5 ∷ [];
  ts' = 0 ∷ 1 ∷ 6 ∷ [];
  promise = sym planned;
  is = refl;
}
