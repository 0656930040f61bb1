-- The layer that a growth goes to, as the code looks for it.
-- Assumes nothing.
use mathlib.Core.Path.{◌≡◌, refl, ap, sym, ◌∙◌}
use mathlib.Core.Bool.{Bool, cond}
use Rattle.std.specs.Prelude.{None, Some}
use mathlib.Core.Option.{Option, none, some}
use Prim.Native.Nat.{ℕ, suc, ◌+◌, ◌-◌, ◌^◌, ◌<◌, ◌≤◌}
use native.Mathlib.Numerals.{add-one}
use native.Mathlib.Nat.{zero-add}
use native.Mathlib.Omega.{arith}
use lib.Dec.{ltb}
use lib.ListN.{length}
use borrow.Author.Tests.{lt-ltb, le-ltb, ltb-true}
use Rattle.lists.specs.Lists.{first_from}
use Rattle.lists.proofs.Searching.{first_is}
use Rattle.orders.specs.declared.scans.Scan.{Scan}
use Rattle.orders.specs.declared.scans.Wide.{Wide}
use Rattle.orders.specs.Reservoirs.{up_to_zeros, wider}
use Rattle.orders.specs.InnerPasses.{low_of, scan_of, widened, wide_of}
use Rattle.orders.proofs.AdmissionLaws.{zeros_at}

-- ---- the search

abbrev pub more_than : ℕ → ℕ → ℕ → Bool
more_than key k i = ltb k (length (up_to_zeros key i k))

wide_eq : {a b c d e f : ℕ} → a ≡ b → c ≡ d → e ≡ f → ◌≡◌ {A = Wide} (record { layer = a; inputs = c; low = e }) (record { layer = b; inputs = d; low = f })
wide_eq p q r = λ t. record { layer = p t; inputs = q t; low = r t }

pub wider_start : (key k j : ℕ) → first_from (more_than key k) (j + 1) (15 - (j + 1)) ≡ wider key k j
unfolding wider
wider_start key k j =
    let e : 15 - (j + 1) ≡ 14 - j = omega arith in
    rw (e, add-one)

-- what a scan by top bits 00 found
pub scan_inputs : (key i k : ℕ) (s : Scan) → s ≡ scan_of key i (4 ^ i) k → s.inputs ≡ length (up_to_zeros key i k)
unfolding scan_of
scan_inputs key i k s e = ap (λ (z : Scan). z.inputs) e ∙ zero-add _ ∙ ap length (sym (zeros_at key i k))

scan_low : (key i k : ℕ) (s : Scan) → s ≡ scan_of key i (4 ^ i) k → s.low ≡ low_of (4 ^ i) (up_to_zeros key i k)
unfolding scan_of low_of
scan_low key i k s e = ap (λ (z : Scan). z.low) e ∙ ap (low_of (4 ^ i)) (sym (zeros_at key i k))

search_step : (t : ℕ → Bool) (i : ℕ) → i < 15 → first_from t i (15 - i) ≡ cond (t i) (some i) (first_from t (i + 1) (15 - (i + 1)))
search_step t i h =
    let e : 15 - i ≡ suc (15 - (i + 1)) = omega arith in
    rw (e, add-one)

pub wider_here : (key k j i : ℕ) (s : Scan) → i < 15 → s ≡ scan_of key i (4 ^ i) k → k < s.inputs
    → first_from (more_than key k) i (15 - i) ≡ wider key k j → Some (record { layer = i; inputs = s.inputs; low = s.low }) ≡ wide_of key k j
unfolding wide_of
wider_here key k j i s h e g inv =
    let p = scan_inputs key i k s e in
    let f : wider key k j ≡ some i = sym inv ∙ search_step (more_than key k) i h ∙ rw (lt-ltb k (length (up_to_zeros key i k)) (omega arith)) in
    rw f (ap Some (wide_eq refl p (scan_low key i k s e)))

pub wider_go : (key k j i : ℕ) (s : Scan) → i < 15 → s ≡ scan_of key i (4 ^ i) k → s.inputs ≤ k
    → first_from (more_than key k) i (15 - i) ≡ wider key k j → first_from (more_than key k) (i + 1) (15 - (i + 1)) ≡ wider key k j
wider_go key k j i s h e g inv =
    let p = scan_inputs key i k s e in
    sym (search_step (more_than key k) i h ∙ rw (le-ltb k (length (up_to_zeros key i k)) (omega arith))) ∙ inv

pub wider_none : (key k j i : ℕ) → 15 ≤ i → first_from (more_than key k) i (15 - i) ≡ wider key k j → None ≡ wide_of key k j
unfolding wide_of
wider_none key k j i h inv =
    let e : 15 - i ≡ 0 = omega arith in
    let f : wider key k j ≡ none = sym inv ∙ rw e in
    rw f

-- ---- what a caller learns

pub record Found (key k j : ℕ) (w : Wide) : Type 0 where
  pub is : wider key k j ≡ some w.layer
  pub high : j < w.layer
  pub top : w.layer < 15
  pub inputs : w.inputs ≡ length (up_to_zeros key w.layer k)
  pub more : k < length (up_to_zeros key w.layer k)
  pub lowest : w.low ≡ low_of (4 ^ w.layer) (up_to_zeros key w.layer k)

wider_open : (key k j : ℕ) → first_from (more_than key k) (suc j) (14 - j) ≡ wider key k j
unfolding wider
wider_open key k j = refl

found_at : (key k j : ℕ) (o : Option ℕ) → wider key k j ≡ o → j < 15 → (w : Wide) → Some w ≡ widened key k o → Found key k j w
found_at key k j none e p w z = absurd (cc)
found_at key k j (some i) e p w z =
    let f : w ≡ record { layer = i; inputs = length (up_to_zeros key i k); low = low_of (4 ^ i) (up_to_zeros key i k) } = cc in
    let g : w.layer ≡ i = ap (λ (v : Wide). v.layer) f in
    let b = first_is (more_than key k) (suc j) (14 - j) i (wider_open key k j ∙ e) in
    record {
      is = e ∙ ap some (sym g);
      high = omega (arith, b.0);
      top = omega (arith, b.1);
      inputs = ap (λ (v : Wide). v.inputs) f ∙ ap (λ (v : ℕ). length (up_to_zeros key v k)) (sym g);
      more = ltb-true k (length (up_to_zeros key w.layer k)) (ap (more_than key k) g ∙ b.2);
      lowest = ap (λ (v : Wide). v.low) f ∙ ap (λ (v : ℕ). low_of (4 ^ v) (up_to_zeros key v k)) (sym g);
    }

pub found : (key k j : ℕ) (w : Wide) → j < 15 → Some w ≡ wide_of key k j → Found key k j w
unfolding wide_of
found key k j w p f = found_at key k j (wider key k j) refl p w f

none_at : (key k : ℕ) (o : Option ℕ) → None ≡ widened key k o → o ≡ none
none_at key k none f = refl
none_at key k (some i) f = absurd (cc)

pub found_none : (key k j : ℕ) → None ≡ wide_of key k j → wider key k j ≡ none
unfolding wide_of
found_none key k j f = none_at key k (wider key k j) f
