-- Demand 1 of each call for C and Rust that may be refused: a refusal is one of its own, and leaves all that was lent as it was. Those whose
-- answer alone crosses have the library's law of the call they make.
-- Assumes nothing.
use mathlib.Core.Path.{◌≡◌, refl}
use mathlib.Core.Bool.{true, ◌&&◌}
use mathlib.Core.List.{List}
use Prim.Native.Nat.{ℕ, ◌+◌, ◌*◌, ◌^◌}
use native.Mathlib.Omega.{arith}
use lib.Dec.{ltb, leb}
use lib.ListN.{length}
use Rattle.answers.specs.Answers.{Answer, refusal, result, after}
use Rattle.lists.specs.Lists.{same, has, every}
use Rattle.answers.specs.Refusing.{Among, Spares}
use Rattle.lists.proofs.Tests.{by_cond}
use Rattle.answers.proofs.Spared.{spared_under}
use Rattle.layers.specs.Layer.{size}
use Rattle.hashes.specs.Calls.{limited}
use Rattle.orders.specs.OrderCalls as OrderCalls
use Rattle.orders.specs.ReservoirCalls as ReservoirCalls
use Rattle.orders.specs.RefusedBy.{order_refusals, open_refusals, admit_refusals, grow_layer_refusals}
use Rattle.orders.proofs.RefusedLaws as orders
use Rattle.choosers.specs.ChooserCalls as ChooserCalls
use Rattle.choosers.specs.SlotCalls as SlotCalls
use Rattle.choosers.specs.RefusedBy as lists
use Rattle.choosers.proofs.RefusedLaws as choosers
use Rattle.exports.specs.Coded.{layer_xors, input_xors, truth, found_number, coded_number, falling_digest, rising_digest}
use Rattle.exports.specs.Crossings.{words_list}
use Rattle.answers.specs.Making.{short_refusal}
use Rattle.exports.specs.Orders as Order
use Rattle.exports.specs.Reservoirs as Reservoir
use Rattle.exports.specs.Chooser as Chooser
use Rattle.exports.specs.Slots as Slots
use Rattle.exports.proofs.TooFewLaws.{short_among, short_with_k, alone, made_refuses, read_refuses, called_refuses, fits_refuses}
use Rattle.exports.specs.RefusedBy.{Crosses, said_else, said_by, layer_xors_refusals, input_xors_refusals, hash_digest_refusals, order_digest_refusals, order_new_refusals, chooser_new_refusals, words_refusals, order_next_refusals, reservoir_next_refusals, reservoir_grow_layer_refusals, reservoir_sample_refusals, chooser_grow_refusals, chooser_next_refusals, chooser_shrink_refusals}

-- ---- numbers alone

pub layer_xors_refuses : (key j n : ℕ) → Among layer_xors_refusals (layer_xors key j n)
unfolding layer_xors has same
layer_xors_refuses key j n = by_cond (Among layer_xors_refusals) (leb j 14 && leb n (size j)) _ _ (λ is. tt) (λ no. refl)

pub input_xors_refuses : (key j n : ℕ) → Among input_xors_refusals (input_xors key j n)
unfolding input_xors has same
input_xors_refuses key j n = by_cond (Among input_xors_refusals) (leb j 14 && leb n (size j)) _ _ (λ is. tt) (λ no. refl)

limit_refuses : (ws : List ℕ) (n x : ℕ) → has 1 ws ≡ true → Among ws (limited n x)
unfolding limited
limit_refuses ws n x h = by_cond (Among ws) (ltb (2 ^ 62) n) _ _ (λ above. h) (λ not. tt)

pub falling_digest_refuses : (s n : ℕ) → Among hash_digest_refusals (falling_digest s n)
unfolding falling_digest has same
falling_digest_refuses s n = limit_refuses hash_digest_refusals n _ refl

pub rising_digest_refuses : (s n : ℕ) → Among hash_digest_refusals (rising_digest s n)
unfolding rising_digest has same
rising_digest_refuses s n = limit_refuses hash_digest_refusals n _ refl

pub order_digest_refuses : (key n count : ℕ) → Among order_digest_refusals (Order.order_digest key n count)
unfolding Order.order_digest has same
order_digest_refuses key n count = by_cond (Among order_digest_refusals) (ltb (2 ^ 30) n) _ _ (λ above. refl) (λ not. tt)

-- ---- orders

module _ (ws : List ℕ) where
  pub order_new_refuses : (key n : ℕ) → let t = said_else (short_refusal (2 ^ 30) 0 0 n) Order.order_layout.count ws (OrderCalls.new_call n key) in
      let a = Order.new_order_crossed key n ws in Crosses (λ o. 0) order_new_refusals t a.answer ws a.left
  unfolding Order.new_order_crossed has same every
  order_new_refuses key n =
      made_refuses Order.order_layout ws _ (λ v u. v) tt order_new_refusals (after (OrderCalls.new_call n key) tt)
      (short_among (2 ^ 30) n order_new_refusals refl refl)
      (alone order_refusals order_new_refusals refl (OrderCalls.new_call n key) (orders.order_refuses n key))

  pub order_next_refuses : let t = said_by Order.order_layout.count ws (OrderCalls.next_call (Order.order_as ws)).answer in
      let a = Order.next_order_crossed ws in Crosses found_number order_next_refusals t a.answer ws a.left
  unfolding Order.next_order_crossed
  order_next_refuses =
      called_refuses Order.order_lending found_number _ ws (Order.order_as ws) OrderCalls.next_call (orders.order_next_refuses (Order.order_as ws))

-- ---- reservoirs and choosers

module _ (ws l : List ℕ) where
  pub reservoir_new_refuses : (key k n : ℕ) → let t = said_else (short_refusal (2 ^ 30) 1 k n) Reservoir.reservoir_layout.count ws (ReservoirCalls.open_call k n key l).answer in
      let a = Reservoir.new_crossed key k n ws l in Crosses (λ r. 0) open_refusals t a.answer (words_list ws l) a.left
  unfolding Reservoir.new_crossed
  reservoir_new_refuses key k n =
      made_refuses Reservoir.reservoir_layout ws _ words_list l open_refusals (ReservoirCalls.open_call k n key l) (orders.short_refuses k n)
      (orders.open_refuses k n key l)

  pub reservoir_next_refuses : let t = said_by Reservoir.reservoir_layout.count ws (ReservoirCalls.admit_call (Reservoir.record_of ws) l).answer in
      let a = Reservoir.next_crossed ws l in Crosses Reservoir.exchange_number reservoir_next_refusals t a.answer (words_list ws l) a.left
  unfolding Reservoir.next_crossed
  reservoir_next_refuses = called_refuses Reservoir.reservoir_lending Reservoir.exchange_number admit_refusals ws (ReservoirCalls.reservoir_state (Reservoir.record_of ws) l)
      (λ s. ReservoirCalls.admit_call s.reservoir s.list) (orders.admit_refuses (Reservoir.record_of ws) l)

  pub reservoir_grow_layer_refuses : let t = said_by Reservoir.reservoir_layout.count ws (ReservoirCalls.grow_layer_call (Reservoir.record_of ws) l).answer in
      let a = Reservoir.grow_crossed ws l in Crosses (λ u. 0) reservoir_grow_layer_refusals t a.answer (words_list ws l) a.left
  unfolding Reservoir.grow_crossed
  reservoir_grow_layer_refuses = called_refuses Reservoir.reservoir_lending (λ u. 0) grow_layer_refusals ws (ReservoirCalls.reservoir_state (Reservoir.record_of ws) l)
      (λ s. ReservoirCalls.grow_layer_call s.reservoir s.list) (orders.grow_layer_refuses (Reservoir.record_of ws) l)

  pub reservoir_sample_refuses : (out : List ℕ) → let t = said_by Reservoir.reservoir_layout.count ws (ReservoirCalls.sample_call (Reservoir.record_of ws) l out).answer in
      let a = Reservoir.sample_crossed ws l out in Crosses (λ u. 0) reservoir_sample_refusals t a.answer out a.left
  unfolding Reservoir.sample_crossed
  reservoir_sample_refuses out =
      read_refuses Reservoir.reservoir_layout ws _ _ out (ReservoirCalls.sample_call (Reservoir.record_of ws) l out) (orders.sample_refuses (Reservoir.record_of ws) l out)

  pub chooser_with_k_refuses : (s k n : ℕ) → let t = said_else (short_refusal (2 ^ 62) 0 k n) Chooser.chooser_layout.count ws (ChooserCalls.new_with_k_call s n k l).answer in
      let a = Chooser.new_with_k_crossed s k n ws l in Crosses (λ c. 0) lists.with_k_refusals t a.answer (words_list ws l) a.left
  unfolding Chooser.new_with_k_crossed
  chooser_with_k_refuses s k n =
      made_refuses Chooser.chooser_layout ws _ words_list l lists.with_k_refusals (ChooserCalls.new_with_k_call s n k l) (short_with_k n k)
      (choosers.with_k_refuses s n k l)

  pub chooser_grow_refuses : let t = said_by Chooser.chooser_layout.count ws (ChooserCalls.grow_call (Chooser.chooser_as ws) l).answer in
      let a = Chooser.grow_crossed ws l in Crosses (λ x. x) chooser_grow_refusals t a.answer (words_list ws l) a.left
  unfolding Chooser.grow_crossed
  chooser_grow_refuses = called_refuses Chooser.chooser_lending (λ x. x) lists.grow_refusals ws (ChooserCalls.chooser_state (Chooser.chooser_as ws) l)
      (λ s. ChooserCalls.grow_call s.chooser s.list) (choosers.grow_refuses (Chooser.chooser_as ws) l)

  pub chooser_next_refuses : let t = said_by Chooser.chooser_layout.count ws (ChooserCalls.next_call (Chooser.chooser_as ws) l).answer in
      let a = Chooser.next_crossed ws l in Crosses found_number chooser_next_refusals t a.answer (words_list ws l) a.left
  unfolding Chooser.next_crossed
  chooser_next_refuses = called_refuses Chooser.chooser_lending found_number lists.next_refusals ws (ChooserCalls.chooser_state (Chooser.chooser_as ws) l)
      (λ s. ChooserCalls.next_call s.chooser s.list) (choosers.next_refuses (Chooser.chooser_as ws) l)

  pub chooser_shrink_refuses : let t = said_by Chooser.chooser_layout.count ws (ChooserCalls.shrink_call (Chooser.chooser_as ws) l).answer in
      let a = Chooser.shrink_crossed ws l in Crosses (λ x. x) chooser_shrink_refusals t a.answer (words_list ws l) a.left
  unfolding Chooser.shrink_crossed
  chooser_shrink_refuses = called_refuses Chooser.chooser_lending (λ x. x) lists.shrink_refusals ws (ChooserCalls.chooser_state (Chooser.chooser_as ws) l)
      (λ s. ChooserCalls.shrink_call s.chooser s.list) (choosers.shrink_refuses (Chooser.chooser_as ws) l)

module _ (ws : List ℕ) where
  pub chooser_new_refuses : (s n : ℕ) → let t = said_else (short_refusal (2 ^ 62) 0 0 n) Chooser.chooser_layout.count ws (ChooserCalls.new_call s n) in
      let a = Chooser.new_crossed s n ws in Crosses (λ c. 0) chooser_new_refusals t a.answer ws a.left
  unfolding Chooser.new_crossed has same every
  chooser_new_refuses s n =
      made_refuses Chooser.chooser_layout ws _ (λ v u. v) tt chooser_new_refusals (after (ChooserCalls.new_call s n) tt)
      (short_among (2 ^ 62) n chooser_new_refusals refl refl)
      (alone lists.chooser_refusals chooser_new_refusals refl (ChooserCalls.new_call s n) (choosers.chooser_refuses s n))

-- ---- whether a record fits

pub reservoir_fits_refuses : (ws l : List ℕ) → let t = said_by Reservoir.reservoir_layout.count ws (result (ReservoirCalls.fitting (Reservoir.record_of ws) l)) in
    Crosses {M = Unit {0}} truth words_refusals t (Reservoir.fits_crossed ws l) tt tt
unfolding Reservoir.fits_crossed
reservoir_fits_refuses ws l = fits_refuses Reservoir.reservoir_layout ws _

pub chooser_fits_refuses : (ws l : List ℕ) → let t = said_by Chooser.chooser_layout.count ws (result (ChooserCalls.fitting (Chooser.chooser_as ws) l)) in
    Crosses {M = Unit {0}} truth words_refusals t (Chooser.fits_crossed ws l) tt tt
unfolding Chooser.fits_crossed
chooser_fits_refuses ws l = fits_refuses Chooser.chooser_layout ws _

-- ---- slot maps, whose count is no lent memory

module _ (c : ℕ) (t : List ℕ) where
  pub slots_add_refuses : let b = SlotCalls.add_call (SlotCalls.map_of c) t in
      let a = Slots.add_crossed c t in Crosses (λ x. b.left.map.total * 2 ^ 32 + x) lists.add_refusals b.answer a.answer t a.left
  unfolding Slots.add_crossed
  slots_add_refuses = (refl, spared_under (λ s. s.table) _ _ _ _ (choosers.add_refuses (SlotCalls.map_of c) t))

  pub slots_remove_refuses : (x : ℕ) → let b = SlotCalls.remove_call (SlotCalls.map_of c) t x in
      let a = Slots.remove_crossed x c t in Crosses (λ u. b.left.map.total) lists.remove_refusals b.answer a.answer t a.left
  unfolding Slots.remove_crossed
  slots_remove_refuses x = (refl, spared_under (λ s. s.table) _ _ _ _ (choosers.remove_refuses (SlotCalls.map_of c) t x))

  scratch_spared : (o : Answer ℕ) (a : ℕ) (before now : List ℕ) → a ≡ coded_number o → Slots.ScratchAfter a before now
      → Among lists.get_refusals o → Spares lists.get_refusals o before now
  scratch_spared (refusal v) a before now e k h = (h, k (omega arith))
  scratch_spared (result x) a before now e k h = tt

  -- by its promise, for the scratch
  pub slots_get_refuses : (s a : ℕ) (before now : List ℕ) → let o = SlotCalls.get_call (SlotCalls.map_of c) t s (length before) in
      a ≡ coded_number o → Slots.ScratchAfter a before now → Crosses (λ x. x) lists.get_refusals o a before now
  slots_get_refuses s a before now e k = (e, scratch_spared _ a before now e k (choosers.get_among (SlotCalls.map_of c) t s (length before)))
