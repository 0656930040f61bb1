-- Every row of the table holds: one about numbers by computation, one about every state by the laws.
-- Assumes nothing.
use mathlib.Core.Path.{◌≡◌, refl, ap, ◌∙◌}
use mathlib.Core.Bool.{true}
use mathlib.Core.List.{List, [], ◌∷◌}
use mathlib.Core.Option.{some}
use Prim.Native.Nat.{ℕ, ◌<◌}
use native.Mathlib.Omega.{arith}
use Rattle.lists.specs.Lists.{below, not_below, same, every, standing, last, written}
use Rattle.lists.proofs.Tests.{below→lt}
use Rattle.lists.proofs.Counting.{Order, order_all}
use Rattle.words.specs.Words.{rotate_right}
use Rattle.layers.specs.Layer.{round_function, next_key, round}
use Rattle.orders.specs.Orders.{layer_of, log2, P}
use Rattle.orders.specs.Reservoirs.{counts, incoming}
use Rattle.orders.specs.ReservoirCalls.{sample, fitting, exchange_by, exchange, admit_call}
use Rattle.orders.proofs.OrderLaws.{P_order}
use Rattle.hashes.specs.Hashes.{later_numbers, numbers, bucket_hashes, prev}
use Rattle.hashes.proofs.PrevLaws.{prev_none, prev_is, prev_small}
use Rattle.choosers.specs.ChooserCalls.{ascends, tested, counts_from, shrink_call}
use Rattle.choosers.specs.ChooserCalls as choosers
use Rattle.choosers.specs.Slots.{active, deleted, vacant}
use Rattle.choosers.specs.SlotCalls.{add_call, remove_call}
use Rattle.choosers.specs.SlotCalls as slots
use Rattle.choosers.proofs.SampleLaws.{S_full}
use Rattle.rounds.specs.Rounds.{join_call, withdraw_call}
use Rattle.rounds.specs.Rounds as rounds
use Rattle.cases.specs.Table.{Table}

prev_one : (s : ℕ) → prev s 1 ≡ some 0
prev_one s = prev_is s 1 (omega arith) ∙ ap some (prev_small s 1 (omega arith))

-- the only order of one number
one_zero : (xs : List ℕ) → Order 1 xs → xs ≡ 0 ∷ []
one_zero [] o = absurd (omega (arith, o.size))
one_zero (x ∷ y ∷ xs) o = absurd (omega (arith, o.size))
one_zero (x ∷ []) o =
    let b : below 1 x ≡ true = (order_all o).0 in
    let l : x < 1 = below→lt b in
    let e : x ≡ 0 = omega arith in
    rw e

P_zero : (xs : List ℕ) → Order 0 xs → xs ≡ []
P_zero [] o = refl
P_zero (x ∷ xs) o = absurd (omega (arith, o.size))

pub cases : Table
unfolding layer_of log2 counts below admit_call fitting sample every last same exchange exchange_by incoming not_below standing written round round_function next_key rotate_right bucket_hashes numbers later_numbers shrink_call tested choosers.fitting ascends counts_from add_call remove_call slots.fitting active deleted vacant rounds.fitting rounds.admit_call join_call withdraw_call
cases = record {
  round_key_0 = refl;
  round_key_2 = refl;
  round_key_f_l = refl;
  round_key_f_r = refl;
  P_of_0 = λ key. P_zero (P key 0) (P_order key 0 (omega arith));
  P_of_1 = λ key. one_zero (P key 1) (P_order key 1 (omega arith));
  layer_of_4 = refl;
  layer_of_5 = refl;
  layer_of_16 = refl;
  layer_of_17 = refl;
  layer_of_limit = refl;
  prev_of_0 = prev_none;
  prev_of_1 = prev_one;
  bucket_4 = refl;
  samples_of_3 = λ s. S_full s 3;
  shrink_of_3 = λ s. refl;
  count_after_1_2 = λ a b c. refl;
  join_after_1_2 = λ a b c. refl;
  count_after_2_1 = λ a b c. refl;
  join_after_2_1 = λ a b c. refl;
  admit_5 = λ key. refl;
  round_count_1_2 = λ key a b c. refl;
  round_join_1_2 = λ key a b c. refl;
  round_count_2_1 = λ key a b c. refl;
  round_join_2_1 = λ key a b c. refl;
  round_admit_5 = λ key. refl;
}
