-- The loops that look through a layer's outputs: what is left gives the whole.
-- Assumes nothing.
use mathlib.Core.Path.{◌≡◌, refl, sym, ap, ◌∙◌}
use mathlib.Core.Bool.{Bool, true, false, cond}
use Rattle.std.specs.Int.{from_bool}
use mathlib.Core.List.{List, [], ◌∷◌}
use Prim.Native.Nat.{ℕ, zero, suc, ◌+◌, ◌-◌, ◌^◌, ◌<◌, ◌≤◌, min}
use native.Mathlib.Numerals.{add-one}
use native.Mathlib.Nat.{add-zero, zero-add, sub-zero}
use native.Mathlib.Omega.{arith}
use lib.Dec.{ltb}
use lib.ListN.{length, get_or}
use Rattle.lists.specs.Lists.{keep, below, not_below, count_below, up_to}
use Rattle.lists.proofs.Tests.{by_test}
use Rattle.lists.proofs.Prefixes.{up_to_zero}
use Rattle.layers.specs.Layer.{size, layer}
use Rattle.orders.specs.declared.scans.Scan.{Scan}
use Rattle.orders.specs.Reservoirs.{outputs}
use Rattle.orders.specs.InnerPasses.{outs, least, scanned, scan_of}

-- ---- the smallest

least_min : (y d : ℕ) (xs : List ℕ) → least (min y d) xs ≡ min y (least d xs)
least_min y d [] = refl
least_min y d (x ∷ xs) = omega (arith, least_min y d xs)

-- ---- a test as a number

pub more_is : (b : Bool) (t : ℕ) → t + from_bool b ≡ cond b (t + 1) t
more_is true t = refl
more_is false t = add-zero t

pub fewer_is : (b : Bool) (t : ℕ) → t - from_bool b ≡ cond b (t - 1) t
fewer_is true t = refl
fewer_is false t = sub-zero t

pub test_le : (b : Bool) → from_bool b ≤ 1
test_le true = omega arith
test_le false = omega arith

-- ---- the outputs of a layer from an input on

outs_cons : (key i x N : ℕ) → x < N → outs key i x (N - x) ≡ layer i key x ∷ outs key i (x + 1) (N - (x + 1))
outs_cons key i x N h =
    let e : N - x ≡ suc (N - (x + 1)) = omega arith in
    rw (e, add-one)

outs_none : (key i x N : ℕ) → N ≤ x → outs key i x (N - x) ≡ []
outs_none key i x N h =
    let e : N - x ≡ 0 = omega arith in
    rw e

-- ---- the scan of a layer

scan_eq : {a b c d : ℕ} → a ≡ b → c ≡ d → ◌≡◌ {A = Scan} (record { inputs = a; low = c }) (record { inputs = b; low = d })
scan_eq p q = λ t. record { inputs = p t; low = q t }

pub smallest_in : (q : ℕ → Bool) (y low : ℕ) (zs : List ℕ) → least low (keep q (y ∷ zs)) ≡ least (cond (q y) (min y low) low) (keep q zs)
smallest_in q y low zs = by_test (q y) (λ t. rw t (sym (least_min y low (keep q zs)))) (λ f. rw f)

-- for any two tests
module _ (p q : ℕ → Bool) where
  scan_suc : (l x low y : ℕ) (ys : List ℕ) → scanned p q (suc l) x low (y ∷ ys) ≡ scanned p q (cond (p y) l (suc l)) (x + 1) (cond (q y) (min y low) low) ys
  scan_suc l x low y ys =
      by_test (p y)
      (λ h. rw h (scan_eq (omega arith) (smallest_in q y low (up_to p l ys))))
      (λ h. rw h (scan_eq (omega arith) (smallest_in q y low (up_to p (suc l) ys))))

  scan_step : (l x low y : ℕ) (ys : List ℕ) → 0 < l → scanned p q l x low (y ∷ ys) ≡ scanned p q (cond (p y) (l - 1) l) (x + 1) (cond (q y) (min y low) low) ys
  scan_step zero x low y ys h = absurd (omega arith)
  scan_step (suc l) x low y ys h =
      let e : suc l - 1 ≡ l = omega arith in
      rw e (scan_suc l x low y ys)

  scan_enough : (l x low : ℕ) (ys : List ℕ) → l ≤ 0 → scanned p q l x low ys ≡ record { inputs = x; low = low }
  scan_enough l x low ys h =
      let e : l ≡ 0 = omega arith in
      rw (e, up_to_zero p ys) (scan_eq (add-zero x) refl)

  scan_out : (l x low : ℕ) → scanned p q l x low [] ≡ record { inputs = x; low = low }
  scan_out l x low = scan_eq (add-zero x) refl

  -- a turn of the scan, in the code's terms
  pub scan_turn : (key i l x low y l' low' : ℕ) {s : Scan} → x < size i → 0 < l → y ≡ layer i key x → l' ≡ cond (p y) (l - 1) l
      → low' ≡ cond (q y) (min y low) low → scanned p q l x low (outs key i x (size i - x)) ≡ s
      → scanned p q l' (x + 1) low' (outs key i (x + 1) (size i - (x + 1))) ≡ s
  scan_turn key i l x low y l' low' h z e f g inv =
      rw (f, g, e)
      (sym (scan_step l x low (layer i key x) (outs key i (x + 1) (size i - (x + 1))) z)
      ∙ ap (scanned p q l x low) (sym (outs_cons key i x (size i) h)) ∙ inv)

  pub scan_done : (key i l x low : ℕ) {s : Scan} → l ≤ 0 → scanned p q l x low (outs key i x (size i - x)) ≡ s → record { inputs = x; low = low } ≡ s
  scan_done key i l x low h inv = sym (scan_enough l x low (outs key i x (size i - x)) h) ∙ inv

  pub scan_full : (key i l x low : ℕ) {s : Scan} → size i ≤ x → scanned p q l x low (outs key i x (size i - x)) ≡ s → record { inputs = x; low = low } ≡ s
  scan_full key i l x low h inv = sym (scan_out l x low) ∙ ap (scanned p q l x low) (sym (outs_none key i x (size i) h)) ∙ inv

pub scan_start : (key i b k : ℕ) → scanned (below b) (not_below b) k 0 (4 ^ 15) (outs key i 0 (size i - 0)) ≡ scan_of key i b k
unfolding scan_of
scan_start key i b k =
    let e : size i - 0 ≡ size i = omega arith in
    rw e

-- the same of the inputs alone
module _ (p : ℕ → Bool) where
  pub inputs_turn : (key i l x y l' : ℕ) {s : ℕ} → x < size i → 0 < l → y ≡ layer i key x → l' ≡ cond (p y) (l - 1) l
      → x + length (up_to p l (outs key i x (size i - x))) ≡ s → x + 1 + length (up_to p l' (outs key i (x + 1) (size i - (x + 1)))) ≡ s
  inputs_turn key i l x y l' h z e f inv =
      rw (f, e)
      (ap (λ (r : Scan). r.inputs) (sym (scan_step p p l x 0 (layer i key x) (outs key i (x + 1) (size i - (x + 1))) z))
      ∙ ap (λ (ys : List ℕ). x + length (up_to p l ys)) (sym (outs_cons key i x (size i) h)) ∙ inv)

  pub inputs_done : (key i l x : ℕ) {s : ℕ} → l ≤ 0 → x + length (up_to p l (outs key i x (size i - x))) ≡ s → x ≡ s
  inputs_done key i l x h inv = ap (λ (r : Scan). r.inputs) (sym (scan_enough p p l x 0 (outs key i x (size i - x)) h)) ∙ inv

  pub inputs_full : (key i l x : ℕ) {s : ℕ} → size i ≤ x → x + length (up_to p l (outs key i x (size i - x))) ≡ s → x ≡ s
  inputs_full key i l x h inv = ap (λ (r : Scan). r.inputs) (sym (scan_out p p l x 0)) ∙ ap (λ (ys : List ℕ). x + length (up_to p l ys)) (sym (outs_none key i x (size i) h)) ∙ inv

-- ---- how many outputs are below a bound

count_cons : (p : ℕ → Bool) (t y : ℕ) (xs : List ℕ) → t + length (keep p (y ∷ xs)) ≡ cond (p y) (t + 1) t + length (keep p xs)
count_cons p t y xs = by_test (p y) (λ h. rw h (omega arith)) (λ h. rw h)

pub count_turn : (key i b u x t y t' : ℕ) {s : ℕ} → x < u → y ≡ layer i key x → t' ≡ cond (ltb y b) (t + 1) t
    → t + count_below b (outs key i x (u - x)) ≡ s → t' + count_below b (outs key i (x + 1) (u - (x + 1))) ≡ s
unfolding below
count_turn key i b u x t y t' h e f inv =
    rw (f, e)
    (sym (count_cons (below b) t (layer i key x) (outs key i (x + 1) (u - (x + 1))))
    ∙ ap (λ (l : List ℕ). t + count_below b l) (sym (outs_cons key i x u h)) ∙ inv)

pub count_done : (key i b u x t : ℕ) {s : ℕ} → u ≤ x → t + count_below b (outs key i x (u - x)) ≡ s → t ≡ s
count_done key i b u x t {s} h inv =
    let r : t + 0 ≡ s = ap (λ (l : List ℕ). t + count_below b l) (sym (outs_none key i x u h)) ∙ inv in
    omega arith

-- ---- an output by its input

pub outs_at : (key i x c p : ℕ) → p < c → get_or (outs key i x c) p 0 ≡ layer i key (x + p)
outs_at key i x zero p h = absurd (omega arith)
outs_at key i x (suc c) zero h = rw (add-zero x)
outs_at key i x (suc c) (suc p) h =
    let e : suc x + p ≡ x + suc p = omega arith in
    outs_at key i (suc x) c p (omega arith) ∙ ap (layer i key) e

pub output_at : (key i p : ℕ) → p < size i → get_or (outputs key i) p 0 ≡ layer i key p
output_at key i p h = outs_at key i 0 (size i) p h ∙ ap (layer i key) (zero-add p)
