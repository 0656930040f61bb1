-- A turn of the loops over a bucket's later draws, `left` of them to come, in the code's own terms.
-- Assumes nothing.
use mathlib.Core.Path.{◌≡◌, refl, sym, ap, ◌∙◌}
use mathlib.Core.Bool.{cond}
use mathlib.Core.List.{[], ◌∷◌}
use Prim.Native.Nat.{ℕ, zero, suc, ◌+◌, ◌-◌, ◌*◌, ◌%◌, ◌^◌, ◌≤◌, ◌<◌, max, min}
use native.Mathlib.Omega.{arith}
use native.Mathlib.Nat.{mod-lt}
use native.Mathlib.Numerals.{add-one}
use borrow.Author.Tests.{lt-ltb, le-ltb}
use lib.Pow.{pow_pos, pow_mono}
use Rattle.lists.specs.Lists.{below}
use Rattle.lists.proofs.Tests.{below_yes, below_no, by_below}
use Rattle.hashes.specs.Hashes.{draw, draws, later_numbers}
use Rattle.hashes.specs.InnerSearch.{first_later, least_of}

-- a bucket's first number fits a word
pub first_fits : (d j : ℕ) → j < 63 → 2 ^ j + d % 2 ^ j < 2 ^ 64
first_fits d j h =
    let m : 2 ^ j ≤ 2 ^ 62 = pow_mono {i = j} {j = 62} (omega arith) in
    omega (arith, mod-lt d {m = 2 ^ j} (pow_pos j))

twice : (j : ℕ) → 2 ^ (j + 1) ≡ 2 * 2 ^ j
twice j = rw (add-one j) (omega arith)

-- no draw is left
pub later_over : (left j d : ℕ) → left ≤ 0 → later_numbers (2 ^ j) (draws left d) ≡ []
unfolding later_numbers draws
later_over zero j d h = refl
later_over (suc left) j d h = absurd (omega arith)

-- the draw ends the bucket
pub later_ends : (left j d x : ℕ) → 0 < left → x ≡ draw d % 2 ^ (j + 1) → x < 2 ^ j → later_numbers (2 ^ j) (draws left d) ≡ []
unfolding later_numbers draws
later_ends zero j d x h e l = absurd (omega arith)
later_ends (suc left) j d x h e l =
    let f : draw d % (2 * 2 ^ j) < 2 ^ j = rw (twice j) at (rw e at l) in
    rw (lt-ltb (draw d % (2 * 2 ^ j)) (2 ^ j) f)

-- the draw gives a number
pub later_more : (left j d x : ℕ) → 0 < left → x ≡ draw d % 2 ^ (j + 1) → 2 ^ j ≤ x
    → later_numbers (2 ^ j) (draws left d) ≡ x ∷ later_numbers (2 ^ j) (draws (left - 1) (draw d))
unfolding later_numbers draws
later_more zero j d x h e l = absurd (omega arith)
later_more (suc left) j d x h e l =
    let q : x ≡ draw d % (2 * 2 ^ j) = rw (twice j) at e in
    let f : 2 ^ j ≤ draw d % (2 * 2 ^ j) = rw q at l in
    let z : suc left - 1 ≡ left = omega arith in
    rw (z, q, le-ltb (draw d % (2 * 2 ^ j)) (2 ^ j) f)

-- ---- downwards, where 2^j is below n

module _ (n j low : ℕ) (small : 2 ^ j < n) where
  pub draws_over : (left d : ℕ) → left ≤ 0 → first_later n j low left d ≡ low
  unfolding first_later
  draws_over left d h = rw (later_over left j d h)

  -- a number below n decides: it ends the bucket, or is the answer
  pub draw_decides : (left d x : ℕ) → 0 < left → x ≡ draw d % 2 ^ (j + 1) → x < n → first_later n j low left d ≡ cond (below (2 ^ j) x) low x
  unfolding first_later
  draw_decides left d x h e l =
      by_below x (2 ^ j)
      (λ p. rw (later_ends left j d x h e p, below_yes x (2 ^ j) p))
      (λ p. rw (later_more left j d x h e p, below_yes x n l, below_no x (2 ^ j) p))

  -- n or more: on to the next draw
  pub draw_passes : (left d x : ℕ) → 0 < left → x ≡ draw d % 2 ^ (j + 1) → n ≤ x → first_later n j low left d ≡ first_later n j low (left - 1) (draw d)
  unfolding first_later
  draw_passes left d x h e l = rw (later_more left j d x h e (omega arith), below_no x n l)

  -- two draws at once
  module _ (d e f x y z : ℕ) (draw-e : e ≡ draw d) (draw-f : f ≡ draw e) (is_x : x ≡ e % 2 ^ (j + 1)) (is_y : y ≡ f % 2 ^ (j + 1)) (is-z : z ≡ cond (below n x) x y) where
    after_one : n ≤ x → first_later n j low 255 d ≡ first_later n j low 254 e
    after_one l = draw_passes 255 d x (omega arith) (rw draw-e at is_x) l ∙ ap (first_later n j low 254) (sym draw-e)

    pub two_decide : z < n → cond (below (2 ^ j) z) low z ≡ first_later n j low 255 d
    two_decide h =
        by_below x n
        (λ l. let q : z ≡ x = is-z ∙ rw (below_yes x n l) in rw q (sym (draw_decides 255 d x (omega arith) (rw draw-e at is_x) l)))
        (λ l. let q : z ≡ y = is-z ∙ rw (below_no x n l) in rw q (sym (after_one l ∙ draw_decides 254 e y (omega arith) (rw draw-f at is_y) (omega arith))))

    pub two_pass : n ≤ z → first_later n j low 253 f ≡ first_later n j low 255 d
    two_pass h =
        by_below x n
        (λ l. let q : z ≡ x = is-z ∙ rw (below_yes x n l) in absurd (omega arith))
        (λ l. let q : z ≡ y = is-z ∙ rw (below_no x n l) in
        ap (first_later n j low 253) draw-f ∙ sym (after_one l ∙ draw_passes 254 e y (omega arith) (rw draw-f at is_y) (omega arith)))

-- ---- upwards

module _ (m j x : ℕ) where
  pub least_over : (left d : ℕ) → left ≤ 0 → least_of m x (later_numbers (2 ^ j) (draws left d)) ≡ x
  least_over left d h = rw (later_over left j d h)

  -- a number that ends the bucket or is below m
  pub least_stops : (left d y : ℕ) → 0 < left → y ≡ draw d % 2 ^ (j + 1) → y < max (2 ^ j) m → least_of m x (later_numbers (2 ^ j) (draws left d)) ≡ x
  least_stops left d y h e l =
      by_below y (2 ^ j)
      (λ p. rw (later_ends left j d y h e p))
      (λ p. rw (later_more left j d y h e p, below_yes y m (omega arith)))

  pub least_passes : (left d y : ℕ) → 0 < left → y ≡ draw d % 2 ^ (j + 1) → max (2 ^ j) m ≤ y
      → least_of m x (later_numbers (2 ^ j) (draws left d)) ≡ least_of m (min x y) (later_numbers (2 ^ j) (draws (left - 1) (draw d)))
  least_passes left d y h e l = rw (later_more left j d y h e (omega arith), below_no y m (omega arith))
