-- A layer under a key whose numbers and first round keys were worked out once, to be applied many times.
-- Assumes nothing.
use Rattle.std.specs.Prelude.{◌≡◌, ℕ, ◌+◌, ◌-◌, ◌*◌, ◌/◌, ◌%◌, ◌^◌, ◌≤◌, ◌<◌, cond, bit_or, bit_xor, nat_le}
use Rattle.answers.specs.Answers.{Answer, refusal, result}
use Rattle.layers.specs.declared.RoundKey.{RoundKey}
use Rattle.layers.specs.declared.KeyedLayer.{KeyedLayer}
use Rattle.layers.specs.Layer.{size, round_count, start, next_key, rounds, over, layer}
use Rattle.layers.specs.Inverses.{input_of}

-- What a round takes of its K: what r is xored with, and w.
abbrev pub k_xor : ℕ → ℕ
k_xor K = K % 2 ^ 32

abbrev pub k_mul : ℕ → ℕ
k_mul K = bit_or (K / 2 ^ 32) 1

abbrev pub round_key : ℕ → RoundKey
round_key K = record { xor = k_xor K; mul = k_mul K }

-- Layer j: for each of the first four rounds what its K gives, then the K after them, and how many rounds are more than
-- four (no layer has fewer).
abbrev pub keyed_layer : ℕ → ℕ → KeyedLayer
keyed_layer j key =
    let h = j + 1 in
    let k1 = next_key h key in
    let k2 = next_key h k1 in
    let k3 = next_key h k2 in
    record {
      half = h;
      size = size j;
      more = round_count j - 4;
      first = round_key key;
      second = round_key k1;
      third = round_key k2;
      fourth = round_key k3;
      key = next_key h k3;
    }

-- 12: "a layer above 14"
unfoldable pub keyed : ℕ → ℕ → Answer KeyedLayer
keyed j key = cond (nat_le j 14) (result (keyed_layer j key)) (refusal 12)

-- the new r of a round, by what it takes of its K
unfoldable pub new_right : ℕ → ℕ → ℕ → ℕ → ℕ → ℕ
new_right h l r xor mul =
    let p = bit_xor r xor * mul in
    bit_xor l ((p % 2 ^ 32 + p / 2 ^ 32) % 2 ^ h)

-- What any such record gives at any x: four rounds by its own numbers, then those that are more from its key. The half's bits
-- count modulo 16.
unfoldable pub applied : KeyedLayer → ℕ → ℕ
applied f x =
    let h = f.half % 16 in
    let s = start h f.key x in
    let a = new_right h s.l s.r f.first.xor f.first.mul in
    let b = new_right h s.r a f.second.xor f.second.mul in
    let c = new_right h a b f.third.xor f.third.mul in
    let d = new_right h b c f.fourth.xor f.fourth.mul in
    over h (rounds h f.more (record { l = c; r = d; key = f.key }))

-- "Layer j, 0 to 14": y is layer j at x, where the record is that of layer j under a key
abbrev pub LayerAt : KeyedLayer → ℕ → ℕ → Type 0
LayerAt f x y = (j key : ℕ) → j ≤ 14 → f ≡ keyed_layer j key → y ≡ layer j key x

-- ---- its inverse

-- how many inputs any such record tells apart, and as many outputs: "the size 4^(j+1)" in that of layer j
abbrev pub reach : KeyedLayer → ℕ
reach f = 4 ^ (f.half % 16)

-- Document 02, §1: "the input that gives a stated output", of any such record: x gives y, which counts modulo the reach. There is just one
-- such x (law `keyed_undo`).
pub record Inverts (f : KeyedLayer) (y x : ℕ) : Type 0 where
  pub below : x < reach f
  pub gives : applied f x ≡ y % reach f

-- "Layer j, 0 to 14": x is the input that gives y, modulo the size, where the record is that of layer j under a key
abbrev pub InputAt : KeyedLayer → ℕ → ℕ → Type 0
InputAt f y x = (j key : ℕ) → j ≤ 14 → f ≡ keyed_layer j key → x ≡ input_of j key (y % size j)

-- Layer and inverse of any such record "undo each other both ways". Law `keyed_undo`.
pub record KeyedUndo (f : KeyedLayer) : Type 0 where
  pub back : (x z : ℕ) → Inverts f (applied f x) z → z ≡ x % reach f
  pub forth : (y x : ℕ) → Inverts f y x → applied f x ≡ y % reach f
  pub only : (y x z : ℕ) → Inverts f y x → Inverts f y z → x ≡ z
