-- The inverse of a layer: the rounds undone, the last first. Rounds and their inverse undo each other, by one argument
-- over the number of rounds.
-- Assumes nothing.
use Rattle.std.proofs.Common.{◌≡◌, ℕ, zero, suc, ◌+◌, ◌-◌, ◌*◌, ◌%◌, ◌^◌, ◌<◌, sym, refl, ap, ◌∙◌, arith}
use Rattle.words.specs.Words.{rotate_right}
use Rattle.words.proofs.Rotations.{turned_lt, turned_back}
use Rattle.lists.proofs.Numbers.{xor_cancel}
use Rattle.layers.specs.declared.feistel.Halves.{Halves}
use Rattle.layers.specs.Layer.{round_function, next_key, round, rounds}
use Rattle.layers.specs.InnerRounds.{Within}
use Rattle.layers.specs.Permutations.{under, last_key, prev_key, undo, back}
use Rattle.layers.proofs.RoundLaws.{function_lt}

undo_round : (h : ℕ) (s : Halves) → undo h s.key (round h s) ≡ s
unfolding undo round
undo_round h s = λ i. record { l = xor_cancel s.l (round_function h s.r s.key) i; r = s.r; key = s.key }

round_undo : (h K : ℕ) (t : Halves) → t.key ≡ next_key h K → round h (undo h K t) ≡ t
unfolding undo round
round_undo h K t e = λ i. record { l = t.l; r = xor_cancel t.r (round_function h t.l K) i; key = sym e i }

pub back_rounds : (h n : ℕ) (s : Halves) → back h n s.key (rounds h n s) ≡ s
unfolding back rounds round
back_rounds h zero s = refl
back_rounds h (suc n) s = ap (undo h s.key) (back_rounds h n (round h s)) ∙ undo_round h s

back_key : (h n K : ℕ) (s : Halves) → (back h n K s).key ≡ K
unfolding back undo
back_key h zero K s = refl
back_key h (suc n) K s = refl

-- what back leaves holds the first key already
pub back_under : (h n K : ℕ) (s : Halves) → under K (back h n K s) ≡ back h n K s
back_under h n K s = λ i. record { l = (back h n K s).l; r = (back h n K s).r; key = sym (back_key h n K s) i }

-- the halves' own key is not read
pub back_any : (h n K k : ℕ) (s : Halves) → back h n K (under k s) ≡ back h n K s
unfolding back
back_any h zero K k s = refl
back_any h (suc n) K k s = ap (undo h K) (back_any h n (next_key h K) k s)

pub rounds_back : (h n K : ℕ) (s : Halves) → rounds h n (back h n K s) ≡ under (last_key h n K) s
unfolding back rounds last_key
rounds_back h zero K s = refl
rounds_back h (suc n) K s =
    ap (rounds h n) (round_undo h K (back h n (next_key h K) s) (back_key h n (next_key h K) s))
    ∙ rounds_back h n (next_key h K) s

undo_within : (h K : ℕ) (s : Halves) → Within h s → Within h (undo h K s)
unfolding undo
undo_within h K s w = record { left = function_lt h s.r s.l K w.right; right = w.left }

pub back_within : (h n K : ℕ) (s : Halves) → Within h s → Within h (back h n K s)
unfolding back
back_within h zero K s w = record { left = w.left; right = w.right }
back_within h (suc n) K s w = undo_within h K _ (back_within h n (next_key h K) s w)

-- ---- the loops: the key forwards, then the rounds from the last back

pub last_key_step : (h n K : ℕ) → 0 < n → last_key h n K ≡ last_key h (n - 1) (next_key h K)
unfolding last_key
last_key_step h zero K p = absurd (omega arith)
last_key_step h (suc n) K p = let e : suc n - 1 ≡ n = omega arith in rw e

last_key_suc : (h n K : ℕ) → last_key h (suc n) K ≡ next_key h (last_key h n K)
unfolding last_key
last_key_suc h zero K = refl
last_key_suc h (suc n) K = last_key_suc h n (next_key h K)

next_lt : (h K : ℕ) → next_key h K < 2 ^ 64
unfolding next_key
next_lt h K = omega arith

last_key_lt : (h n K : ℕ) → K < 2 ^ 64 → last_key h n K < 2 ^ 64
unfolding last_key
last_key_lt h zero K p = p
last_key_lt h (suc n) K p = last_key_lt h n (next_key h K) (next_lt h K)

prev_next : (h K : ℕ) → h < 16 → K < 2 ^ 64 → prev_key h (next_key h K) ≡ K
unfolding prev_key next_key
prev_next h K p q =
    let r : ℕ = rotate_right K (2 * h) in
    let l : r < 2 ^ 64 = turned_lt K (2 * h) q in
    let e : ((r + 0x9E37_79B9_7F4A_7C15) % 2 ^ 64 + (2 ^ 64 - 0x9E37_79B9_7F4A_7C15)) % 2 ^ 64 ≡ r = omega arith in
    rw e (turned_back K (2 * h) (omega arith) q)

-- the last of n + 1 rounds undone first
back_last : (h n K : ℕ) (s : Halves) → back h (suc n) K s ≡ back h n K (undo h (last_key h n K) s)
unfolding back last_key undo
back_last h zero K s = refl
back_last h (suc n) K s = ap (undo h K) (back_last h n (next_key h K) s)

undo_key : (h K : ℕ) (t : Halves) → (undo h K t).key ≡ K
unfolding undo
undo_key h K t = refl

-- a turn of the loop that undoes them, with n left
pub back_turn : (h n K : ℕ) (s t : Halves) → h < 16 → K < 2 ^ 64 → 0 < n → (t.key ≡ last_key h n K) × (back h n K t ≡ s)
    → ((undo h (prev_key h t.key) t).key ≡ last_key h (n - 1) K) × (back h (n - 1) K (undo h (prev_key h t.key) t) ≡ s)
back_turn h zero K s t p q l i = absurd (omega arith)
back_turn h (suc n) K s t p q l i =
    let m : suc n - 1 ≡ n = omega arith in
    let e : prev_key h t.key ≡ last_key h n K = ap (prev_key h) (i.0 ∙ last_key_suc h n K) ∙ prev_next h (last_key h n K) p (last_key_lt h n K q) in
    rw (m, e) (undo_key h (last_key h n K) t, sym (back_last h n K t) ∙ i.1)

-- and its end
pub back_done : (h K : ℕ) (s t : Halves) → (t.key ≡ last_key h 0 K) × (back h 0 K t ≡ s) → t ≡ s
unfolding back last_key
back_done h K s t i = (λ j. record { l = t.l; r = t.r; key = i.0 j }) ∙ i.1
